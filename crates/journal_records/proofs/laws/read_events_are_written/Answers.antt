use Rattle.journal_records.proofs.Rows.{read-is-written}
use Rattle.journal_records.proofs.laws.read_events_are_written.Goals as goal

pub returns : goal.returns
returns c = read-is-written
