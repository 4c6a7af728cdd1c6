use Rattle.journal_records.proofs.Back.{batch-written}
use Rattle.journal_records.proofs.laws.read_batches_are_written.Goals as goal

pub returns : goal.returns
returns c = batch-written
