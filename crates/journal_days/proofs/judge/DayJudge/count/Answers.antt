use Rattle.std.proofs.Common.{List, ℕ, length, ap, ◌∙◌}
use Rattle.std.specs.Prelude.{min}
use Rattle.journal_days.proofs.Begun.{next-count}
use Rattle.journal_days.proofs.judge.DayJudge.count.Goals as goal

pub returns : goal.returns
returns c = c.self.invariant.at_next ∙ next-count c.self.inside.taken.pages
    ∙ ap (λ (ps : List (List ℕ)). min (length ps) 4_294_967_295) c.self.view_is
