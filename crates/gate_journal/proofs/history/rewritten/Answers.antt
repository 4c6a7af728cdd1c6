use Rattle.std.proofs.Common.{ap, ◌∙◌}
use Rattle.journal_pages.specs.declared.version.Version.TheVariants.{Two}
use Rattle.journal_records.specs.journal_days.Cut.{texts}
use Rattle.journal_records.specs.journal_days.Day.{day_fault, day_records}
use Rattle.journal_records.proofs.journal_days.Leading.{day-rewritten, records-rewritten}
use Rattle.gate_journal.proofs.history.rewritten.Goals as goal

pub returns-clause-day : goal.returns-clause-day
returns-clause-day c =
    ap (day_fault Two) c.in_ok-kept.ensures.written
    ∙ day-rewritten (texts c.args.pages.now) c.in_ok-kept.ensures.writable c.requires

pub returns-clause-records : goal.returns-clause-records
returns-clause-records c =
    ap (day_records Two) c.in_ok-kept.ensures.written
    ∙ records-rewritten (texts c.args.pages.now) c.in_ok-kept.ensures.writable c.requires
