use Rattle.std.proofs.Common.{List, ℕ, sym, subst, ◌∙◌}
use Rattle.journal_days.specs.Judged.{HasJudged}
use Rattle.journal_days.specs.Day.{version_of}
use Rattle.journal_days.proofs.Begun.{is-closed, is-open}
use Rattle.journal_days.proofs.judge.DayJudge.end.Goals as goal

pub returns-then-has_no_batch : goal.returns-then-has_no_batch
returns-then-has_no_batch c =
    let has = subst (λ (ps : List (List ℕ)). HasJudged c.self.inside.version c.self.inside.last c.self.inside.next
    c.self.inside.number c.self.inside.place ps) c.self.view_is c.self.invariant in
    is-closed (version_of c.args.self.now) c.self.inside.place c.args.self.now has.none has.behind
    (sym c.has_no_batch.ensures ∙ c.if-has_no_batch.true)

pub returns : goal.returns
returns c =
    let has = subst (λ (ps : List (List ℕ)). HasJudged c.self.inside.version c.self.inside.last c.self.inside.next
    c.self.inside.number c.self.inside.place ps) c.self.view_is c.self.invariant in
    is-open (version_of c.args.self.now) c.self.inside.last c.self.inside.place c.args.self.now has.none has.at_last
    has.behind (sym c.has_no_batch.ensures ∙ c.if-has_no_batch.false)
