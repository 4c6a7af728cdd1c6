use Rattle.std.proofs.Common.{List, ◌%◌, ◌^◌, length, sym, ap, ◌∙◌}
use Rattle.gate_law.specs.Events.{Batch}
use Rattle.journal_pages.specs.declared.version.Version.TheVariants.{Two}
use Rattle.journal_records.specs.journal_days.Cut.{texts}
use Rattle.journal_records.specs.journal_days.Day.{day_fault, day_records}
use Rattle.journal_days.proofs.Paging.{day-pages}
use Rattle.journal_records.specs.Days.{batches_in}
use Rattle.gate_journal.specs.Kept.{Kept}
use Rattle.gate_journal.proofs.Growing.{as-many}
use Rattle.gate_journal.proofs.history.History.count.Goals as goal

pub returns : goal.returns
returns c =
    c.count_of.ensures
    ∙ ap (λ (bs : List Batch). length bs % 2 ^ 64)
    (ap batches_in (c.of_judged.ensures ∙ ap (day_records Two) c.as_slice.ensures))
    ∙ ap (λ n. n % 2 ^ 64) (sym (as-many c.self.inside.pages) ∙ ap (λ (k : Kept). length k.events) c.self.view_is)

pub of_judged-requires : goal.of_judged-requires
of_judged-requires c = day-pages Two (texts c.as_slice.result.now) (ap (day_fault Two) c.as_slice.ensures ∙ c.self.invariant)
