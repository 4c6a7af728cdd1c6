use Rattle.std.proofs.Common.{◌≡◌, ◌∙◌, Option, None, Some, sym, subst, ap}
use Rattle.gate_law.specs.Settings.{Settings}
use Rattle.desk_rings.specs.Rings.{Done}
use Rattle.gate_journal.specs.Kept.{Kept}
use Rattle.desk_steps.specs.Agreeing.{AreNamed, DeskState}
use Rattle.desk_steps.specs.Recorded.{Recorded}
use Rattle.desk_steps.specs.Settling.{AreReleased}
use Rattle.journal_log.specs.declared.host_file.HostFile.{HostFile}
use Rattle.journal_log.specs.Kept.{TurnLogState}
use Rattle.desk_steps.specs.Ahead.{Ends, HasStill, IsEnded, KeepsAhead, OutputIsKept}
use Rattle.desk_steps.proofs.Ahead.{ends-ahead, ends-once, kept-tells}
use Rattle.desk_steps.proofs.value.Desk.close.Goals as goal

pub invariant_of-result : goal.invariant_of-result
invariant_of-result g c = (
  c.self.invariant.0,
  ends-ahead g.K.DeskName.inlets g.K.DeskName.outlets c.self.inside.recorded c.self.inside.side c.self.inside.journal
      c.end_journal.new.journal c.self.invariant.0
      (subst (λ (k : Kept). HasStill k c.self.inside.journal c.end_journal.new.journal) c.history.ensures.value
      c.end_journal.ensures.kept)
      c.self.invariant.1,
)

pub returns-in-Ok-clause-named : goal.returns-in-Ok-clause-named
returns-in-Ok-clause-named g c = subst (λ (z : Kept). AreNamed g.K.DeskName.inlets z.events)
    (sym c.closed_of.ensures.history) c.self.invariant.0.named

pub returns-in-Ok-clause-output : goal.returns-in-Ok-clause-output
returns-in-Ok-clause-output g c = λ finished took.
    let old : Option (TurnLogState HostFile) = c.self.inside.journal in
    let new : Option (TurnLogState HostFile) = c.end_journal.new.journal in
    let state : DeskState = record { recorded = c.self.inside.recorded; side = c.self.inside.side } in
    let still : HasStill c.self.inside.recorded.kept old new =
    subst (λ (k : Kept). HasStill k old new) c.history.ensures.value c.end_journal.ensures.kept in
    let ahead : KeepsAhead new state =
    ends-ahead g.K.DeskName.inlets g.K.DeskName.outlets c.self.inside.recorded c.self.inside.side old new
    c.self.invariant.0 still c.self.invariant.1 in
    subst (λ (j : Option (TurnLogState HostFile)). OutputIsKept finished j) (sym c.closed_of.ensures.journal)
    (kept-tells finished new state ahead
    (subst (λ (s : DeskState). AreReleased finished s.side.producers) (sym c.self.view_is) took))

pub returns-in-Ok-clause-ended : goal.returns-in-Ok-clause-ended
returns-in-Ok-clause-ended g c = λ none.
    let old : Option (TurnLogState HostFile) = c.self.inside.journal in
    let new : Option (TurnLogState HostFile) = c.end_journal.new.journal in
    let ends : Ends c.self.inside.recorded.kept old new =
    subst (λ (k : Kept). Ends k old new) c.history.ensures.value c.in-Ok.ensures.ended in
    let ended : IsEnded c.self.inside.recorded.kept new =
    ends-once c.self.inside.recorded c.self.inside.side old new ends c.self.invariant.1 in
    subst (λ (k : Kept). IsEnded k c.closed_of.result.journal) (sym c.closed_of.ensures.history)
    (subst (λ (j : Option (TurnLogState HostFile)). IsEnded c.self.inside.recorded.kept j)
    (sym c.closed_of.ensures.journal) ended)

pub returns-in-Err : goal.returns-in-Err
returns-in-Err g c =
    let old : Option (TurnLogState HostFile) = c.self.inside.journal in
    let new : Option (TurnLogState HostFile) = c.end_journal.new.journal in
    let state : DeskState = record { recorded = c.self.inside.recorded; side = c.self.inside.side } in
    let still : HasStill c.self.inside.recorded.kept old new =
    subst (λ (k : Kept). HasStill k old new) c.history.ensures.value c.end_journal.ensures.kept in
    let ahead : KeepsAhead new state =
    ends-ahead g.K.DeskName.inlets g.K.DeskName.outlets c.self.inside.recorded c.self.inside.side old new
    c.self.invariant.0 still c.self.invariant.1 in
    let lost = c.closed_of-in-Err.ensures.lost in
    record {
      history = c.closed_of-in-Err.ensures.history ∙ ap (λ (s : DeskState). s.recorded.kept) c.self.view_is;
      settings = c.closed_of-in-Err.ensures.settings ∙ ap (λ (s : DeskState). s.recorded.settings) c.self.view_is;
      holds = c.closed_of-in-Err.ensures.holds;
      named = subst (λ (z : Kept). AreNamed g.K.DeskName.inlets z.events) (sym c.closed_of-in-Err.ensures.history)
          c.self.invariant.0.named;
      output = λ finished took. subst (λ (j : Option (TurnLogState HostFile)). OutputIsKept finished j)
          (sym c.closed_of-in-Err.ensures.journal)
          (kept-tells finished new state ahead
          (subst (λ (s : DeskState). AreReleased finished s.side.producers) (sym c.self.view_is) took));
      ended = λ none. let no : ⊥ = cc in absurd no;
      err = tt;
    }
