use Rattle.std.proofs.Common.{sym, ap, ◌∙◌}
use Rattle.journal_pages.specs.declared.version.Version.TheVariants.{Two}
use Rattle.journal_records.specs.journal_days.Day.{day_fault}
use Rattle.gate_journal.specs.Kept.{Kept, kept_in}
use Rattle.gate_journal.proofs.history.History.pages.Goals as goal

pub returns-clause-pages : goal.returns-clause-pages
returns-clause-pages c = c.as_slice.ensures ∙ ap (λ (k : Kept). k.pages) c.self.view_is

pub returns-clause-day : goal.returns-clause-day
returns-clause-day c = ap (day_fault Two) c.as_slice.ensures ∙ c.self.invariant

pub returns-clause-same : goal.returns-clause-same
returns-clause-same c = sym c.self.view_is ∙ ap kept_in (sym c.as_slice.ensures)
