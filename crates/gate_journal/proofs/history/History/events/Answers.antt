use Rattle.std.proofs.Common.{List, length, ap, ◌∙◌}
use Rattle.gate_events.specs.declared.event.Event.{Event}
use Rattle.journal_pages.specs.declared.version.Version.TheVariants.{Two}
use Rattle.journal_records.specs.journal_days.Cut.{texts}
use Rattle.journal_records.specs.journal_days.Day.{day_fault, day_records}
use Rattle.journal_days.proofs.Paging.{day-pages}
use Rattle.journal_records.specs.Days.{events_in}
use Rattle.gate_journal.specs.Kept.{Kept}
use Rattle.gate_journal.proofs.Growing.{as-many}
use Rattle.gate_journal.proofs.history.History.events.Goals as goal

pub returns-clause-events : goal.returns-clause-events
returns-clause-events c =
    c.in_ok-events.ensures ∙ ap events_in (c.of_judged.ensures ∙ ap (day_records Two) c.as_slice.ensures)
    ∙ ap (λ (k : Kept). k.events) c.self.view_is

pub returns-clause-count : goal.returns-clause-count
returns-clause-count c =
    ap (λ (es : List Event). length es) (c.in_ok-events.ensures
    ∙ ap events_in (c.of_judged.ensures ∙ ap (day_records Two) c.as_slice.ensures))
    ∙ as-many c.self.inside.pages ∙ ap (λ (k : Kept). length k.batches) c.self.view_is

pub of_judged-requires : goal.of_judged-requires
of_judged-requires c = day-pages Two (texts c.as_slice.result.now) (ap (day_fault Two) c.as_slice.ensures ∙ c.self.invariant)
