use Rattle.std.proofs.Common.{sym, ◌∙◌, arith}
use Rattle.std.proofs.lemmas.Bool.{false≢true}
use Rattle.fixed_point.proofs.Worths.{zero_or_above, negative_is, large_is}
use Rattle.fixed_point.proofs.worth.signed.Goals as goal
use Rattle.fixed_point.proofs.worth.signed.Goals.{else-negative-via-then-negative+else-units-gt0}
use Rattle.fixed_point.proofs.worth.signed.Goals.{else-negative-via-else-negative}

pub returns-in_default : goal.returns-in_default
returns-in_default c = λ n h. large_is c.args.negative c.too_large.result c.args.units n c.in_default.is h
    c.too_large.ensures.below c.too_large.ensures.above

pub returns-then-units-gt0 : goal.returns-then-units-gt0
returns-then-units-gt0 c = λ n h. negative_is c.args.negative c.args.units c.in-Some.units n c.in-Some.is h
    c.if-negative.true (omega (arith, c.if-units-gt0.true))

pub returns : goal.returns
returns c = λ n h. zero_or_above c.args.negative c.args.units c.in-Some.units n c.in-Some.is h (λ e.
    elim c.else-negative.branch [
      | else-negative-via-then-negative+else-units-gt0 w ↦ omega (arith, w.if-units-gt0.false)
      | else-negative-via-else-negative w ↦ absurd (false≢true (sym w.if-negative.false ∙ e))
    ])
