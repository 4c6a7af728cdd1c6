use Rattle.std.proofs.Common.{ap, ◌∙◌}
use Rattle.journal_pages.specs.declared.version.Version.TheVariants.{Two}
use Rattle.journal_days.specs.Cut.{texts}
use Rattle.journal_days.specs.Day.{day_fault}
use Rattle.journal_days.proofs.Paging.{day-pages}
use Rattle.gate_journal.proofs.history.History.into_pages.Goals as goal

pub of_judged-requires : goal.of_judged-requires
of_judged-requires c = day-pages Two (texts c.into_vec.result.items) (ap (day_fault Two) c.into_vec.ensures ∙ c.self.invariant)
