use Rattle.std.proofs.Common.{List, ℕ, subst, ◌∙◌}
use Rattle.journal_days.specs.Judged.{HasJudged}
use Rattle.journal_days.specs.Day.{version_of}
use Rattle.journal_days.proofs.Begun.{closed-is}
use Rattle.journal_days.proofs.judge.DayJudge.is_whole.Goals as goal

pub returns : goal.returns
returns c =
    let has = subst (λ (ps : List (List ℕ)). HasJudged c.self.inside.version c.self.inside.last c.self.inside.next
    c.self.inside.number c.self.inside.place ps) c.self.view_is c.self.invariant in
    c.has_no_batch.ensures
    ∙ closed-is (version_of c.args.self.now) c.self.inside.place c.args.self.now has.none has.behind
