use Rattle.std.proofs.Common.{◌≡◌, true, sym, ◌∙◌, arith}
use Rattle.std.proofs.lemmas.Bool.{false≢true}
use Rattle.fixed_point.proofs.Amounts.{above_most, below_least, below_zero, in_range}
use Rattle.fixed_point.proofs.parsing.in_range.Goals as goal
use Rattle.fixed_point.proofs.parsing.in_range.Goals.{else-negative-via-then-negative+else-size-gt0}
use Rattle.fixed_point.proofs.parsing.in_range.Goals.{else-negative-via-else-negative}

pub returns-then-size-gt0-clause-value : goal.returns-then-size-gt0-clause-value
returns-then-size-gt0-clause-value c =
    sym (below_zero c.args.least c.args.most c.args.size c.args.negative c.if-negative.true (omega arith))

pub returns-then-size-from-clause-value : goal.returns-then-size-from-clause-value
returns-then-size-from-clause-value c =
    sym (below_least c.args.least c.args.most c.args.size c.args.negative (omega arith))

pub returns-then-size-from-2-clause-value : goal.returns-then-size-from-2-clause-value
returns-then-size-from-2-clause-value c =
    sym (above_most c.args.least c.args.most c.args.size c.args.negative (omega arith))

pub returns-clause-value : goal.returns-clause-value
returns-clause-value c =
    let none : c.args.negative ≡ true → c.args.size ≡ 0 = λ e.
    elim c.else-negative.branch [
      | else-negative-via-then-negative+else-size-gt0 w ↦ omega (arith, w.if-size-gt0.false)
      | else-negative-via-else-negative w ↦ absurd (false≢true (sym w.if-negative.false ∙ e))
    ] in
    sym (in_range c.args.least c.args.most c.args.size c.args.negative none (omega arith) (omega arith))
