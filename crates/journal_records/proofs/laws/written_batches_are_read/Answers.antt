use Rattle.journal_records.proofs.Told.{batch-behind, batch-read}
use Rattle.journal_records.proofs.laws.written_batches_are_read.Goals as goal

pub returns-clause-read : goal.returns-clause-read
returns-clause-read c = batch-read

pub returns-clause-behind : goal.returns-clause-behind
returns-clause-behind c = batch-behind
