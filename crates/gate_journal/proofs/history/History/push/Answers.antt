use Rattle.std.proofs.Common.{List, ℕ, ◌∷◌, [], ◌++◌, ap, ◌∙◌}
use Rattle.gate_law.specs.Events.{Batch}
use Rattle.gate_events.specs.declared.event.Event.{Event}
use Rattle.gate_events.specs.Seen.{batch_seen}
use Rattle.journal_records.specs.journal_days.Cut.{with_records}
use Rattle.journal_pages.specs.declared.version.Version.TheVariants.{Two}
use Rattle.journal_records.specs.journal_days.Day.{day_fault, day_records}
use Rattle.journal_records.specs.Days.{batches_in, events_in}
use Rattle.journal_records.specs.Parts.{turn_records}
use Rattle.gate_journal.specs.Kept.{Kept, kept_in, kept_turn, turns}
use Rattle.gate_journal.proofs.Growing.{batches-pushed, day-pushed, events-pushed, on-err, turns-pushed}
use Rattle.gate_journal.proofs.history.History.push.Goals as goal

pub invariant_of-self : goal.invariant_of-self
invariant_of-self c = ap (day_fault Two) c.in_err-append_turn.ensures.err ∙ c.self.invariant

pub invariant_of-self-2 : goal.invariant_of-self-2
invariant_of-self-2 c =
    ap (day_fault Two) c.in_ok-append_turn.ensures.ok
    ∙ day-pushed c.self.inside.pages c.args.event.now
    (batch_seen c.args.batch.now) c.self.invariant c.in_ok-append_turn.ensures.turn

pub returns-in_err-append_turn-clause-err : goal.returns-in_err-append_turn-clause-err
returns-in_err-append_turn-clause-err c =
    on-err c.from_residual.result (ap kept_in c.in_err-append_turn.ensures.err ∙ c.self.view_is)

pub returns-clause-events : goal.returns-clause-events
returns-clause-events c =
    let e : Event = c.args.event.now in
    ap (λ (p : List (List ℕ)). events_in (day_records Two p)) c.in_ok-append_turn.ensures.ok
    ∙ events-pushed c.self.inside.pages e (batch_seen c.args.batch.now) c.self.invariant
    c.in_ok-append_turn.ensures.turn
    ∙ ap (λ (k : Kept). k.events ++ e ∷ []) c.self.view_is

pub returns-clause-batches : goal.returns-clause-batches
returns-clause-batches c =
    let b : Batch = batch_seen c.args.batch.now in
    ap (λ (p : List (List ℕ)). batches_in (day_records Two p)) c.in_ok-append_turn.ensures.ok
    ∙ batches-pushed c.self.inside.pages c.args.event.now b c.self.invariant c.in_ok-append_turn.ensures.turn
    ∙ ap (λ (k : Kept). k.batches ++ b ∷ []) c.self.view_is

pub returns-clause-turns : goal.returns-clause-turns
returns-clause-turns c =
    let e : Event = c.args.event.now in
    let b : Batch = batch_seen c.args.batch.now in
    ap (λ (p : List (List ℕ)). turns (kept_in p)) c.in_ok-append_turn.ensures.ok
    ∙ turns-pushed c.self.inside.pages e b c.self.invariant c.in_ok-append_turn.ensures.turn
    ∙ ap (λ (k : Kept). kept_turn e b ∷ turns k) c.self.view_is

pub returns-clause-pages : goal.returns-clause-pages
returns-clause-pages c =
    c.in_ok-append_turn.ensures.ok
    ∙ ap (λ (k : Kept). with_records k.pages (turn_records c.args.event.now (batch_seen c.args.batch.now)))
    c.self.view_is
