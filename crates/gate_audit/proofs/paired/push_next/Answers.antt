use Rattle.std.proofs.Common.{◌≡◌, ◌∙◌, ◌<◌, ◌++◌, ◌∷◌, [], List, ap, arith, length}
use Rattle.gate_audit.specs.Pairs.{Pair}
use Rattle.gate_audit.proofs.Made.{next-pair, no-pair}
use Rattle.gate_audit.proofs.paired.push_next.Goals as goal

pub returns-then-at-count : goal.returns-then-at-count
returns-then-at-count c = λ before is.
    no-pair before c.args.opening.now c.args.fix.now c.args.said.now c.args.pairs.now.items is
    (λ some more. omega (arith, some, more, c.if-at-count.true, c.min-count.ensures, c.len-at.ensures))

pub returns : goal.returns
returns c = λ before is.
    let made : List Pair = c.args.pairs.now.items in
    let many : c.len-at.result ≡ length made = omega (arith, c.len-at.ensures) in
    let some : c.len-at.result < length c.args.fix.now = omega (arith, c.if-at-count.false, c.min-count.ensures) in
    let more : c.len-at.result < length c.args.said.now = omega (arith, c.if-at-count.false, c.min-count.ensures) in
    c.in_ok-push.ensures.items
    ∙ (ap (λ (p : Pair). made ++ p ∷ []) c.in_ok-pair_of.ensures
    ∙ next-pair before c.args.opening.now c.args.fix.now c.args.said.now _ _ made c.len-at.result is many some more)
