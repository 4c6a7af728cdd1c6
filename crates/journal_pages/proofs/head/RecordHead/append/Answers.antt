use Rattle.std.proofs.Common.{List, ℕ, ◌++◌, ap, ◌∙◌, arith, length-append}
use Rattle.journal_pages.proofs.head.RecordHead.append.Goals as goal

pub returns-clause-ok : goal.returns-clause-ok
returns-clause-ok c =
    let front : List ℕ = c.args.front.now in
    let back : List ℕ = c.args.back.now in
    c.in_ok-append_pieces.ensures.ok
    ∙ ap (λ (l : List ℕ). c.args.out.now.items ++ l)
    (c.bytes-head.ensures (front ++ back) (omega (arith, length-append front back)))
