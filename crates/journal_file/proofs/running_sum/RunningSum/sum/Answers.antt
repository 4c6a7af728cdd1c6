use Rattle.std.proofs.Common.{◌≤◌, ◌%◌, ap, ◌∙◌, arith}
use Rattle.journal_file.specs.Sum.{mixed, sum_of}
use Rattle.journal_file.proofs.Summed.{running-sum}
use Rattle.journal_file.proofs.running_sum.RunningSum.sum.Goals as goal

pub returns : goal.returns
returns c =
    let some : 1 ≤ c.self.inside.size % 8 = omega (arith, c.if-count-eq0.false) in
    c.mixed.ensures ∙ ap (mixed c.self.inside.sum) c.last_word.ensures
    ∙ running-sum c.self.inside.noted.bytes c.self.inside.word c.self.inside.sum c.self.inside.size c.self.invariant some
    ∙ ap sum_of c.self.view_is
