use Rattle.std.proofs.Common.{◌+◌, sym, ◌∙◌, arith}
use Rattle.std.proofs.lemmas.List.{take_rest}
use Rattle.fixed_point.proofs.Points.{whole_before, behind_after, whole_of_all, behind_none}
use Rattle.fixed_point.proofs.decimal.parts_of.Goals as goal

pub returns-then-byte-eq46-clause-whole : goal.returns-then-byte-eq46-clause-whole
returns-then-byte-eq46-clause-whole c =
    whole_before c.args.text.now c.loop-i.i (omega arith) c.loop-i.invariant (λ _. c.if-byte-eq46.true)

pub returns-then-byte-eq46-clause-behind : goal.returns-then-byte-eq46-clause-behind
returns-then-byte-eq46-clause-behind c =
    take_rest c.args.text.now (c.loop-i.i + 1)
    ∙ behind_after c.args.text.now c.loop-i.i (omega arith) c.loop-i.invariant (λ _. c.if-byte-eq46.true)

pub returns-clause-whole : goal.returns-clause-whole
returns-clause-whole c = whole_of_all c.args.text.now c.loop-i.i (omega arith) (omega arith) c.loop-i.invariant

pub returns-clause-behind : goal.returns-clause-behind
returns-clause-behind c = sym (behind_none c.args.text.now c.loop-i.i (omega arith) (omega arith) c.loop-i.invariant)
