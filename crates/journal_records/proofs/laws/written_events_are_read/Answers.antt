use Rattle.journal_records.proofs.Rows.{read-written}
use Rattle.journal_records.proofs.laws.written_events_are_read.Goals as goal

pub returns : goal.returns
returns c = read-written
