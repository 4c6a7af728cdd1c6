use Rattle.std.proofs.Common.{refl}
use Rattle.journal_days.specs.Left.{records_left}
use Rattle.gate_journal.specs.Kept.{kept_in}
use Rattle.journal_days.specs.Cut.{texts}
use Rattle.gate_journal.proofs.Days.{compared}
use Rattle.gate_journal.proofs.comparing.first_other.Goals as goal

pub returns : goal.returns
returns c =
    compared (kept_in (texts c.args.day.now)) (kept_in (texts c.args.other.now)) (texts c.args.day.now)
    (texts c.args.other.now) (records_left c.of-records.result) (records_left c.of.result) refl refl
    c.of-records.ensures c.of.ensures c.first_difference.result c.first_difference.ensures
