use Rattle.std.proofs.Common.{List, length, sym, ap, ◌∙◌}
use Rattle.std.proofs.lemmas.List.{length-map}
use Rattle.gate_law.specs.Events as law
use Rattle.gate_events.specs.Seen.{batch_seen}
use Rattle.journal_pages.specs.declared.version.Version.TheVariants.{Two}
use Rattle.journal_records.specs.journal_days.Cut.{texts}
use Rattle.journal_records.specs.journal_days.Day.{day_fault, day_records}
use Rattle.journal_days.proofs.Paging.{day-pages}
use Rattle.journal_records.specs.Days.{batches_in}
use Rattle.gate_journal.specs.Kept.{Kept}
use Rattle.gate_journal.proofs.Growing.{as-many}
use Rattle.gate_journal.proofs.history.History.batches.Goals as goal

pub returns-clause-batches : goal.returns-clause-batches
returns-clause-batches c =
    c.in_ok-batches.ensures ∙ ap batches_in (c.of_judged.ensures ∙ ap (day_records Two) c.as_slice.ensures)
    ∙ ap (λ (k : Kept). k.batches) c.self.view_is

pub returns-clause-count : goal.returns-clause-count
returns-clause-count c =
    sym (length-map c.in_ok-batches.batches.items batch_seen)
    ∙ ap (λ (bs : List law.Batch). length bs)
    (c.in_ok-batches.ensures ∙ ap batches_in (c.of_judged.ensures ∙ ap (day_records Two) c.as_slice.ensures))
    ∙ sym (as-many c.self.inside.pages) ∙ ap (λ (k : Kept). length k.events) c.self.view_is

pub of_judged-requires : goal.of_judged-requires
of_judged-requires c = day-pages Two (texts c.as_slice.result.now) (ap (day_fault Two) c.as_slice.ensures ∙ c.self.invariant)
