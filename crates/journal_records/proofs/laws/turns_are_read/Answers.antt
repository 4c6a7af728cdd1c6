use Rattle.journal_records.proofs.Said.{more-batches, more-events}
use Rattle.journal_records.proofs.laws.turns_are_read.Goals as goal

pub returns-clause-events : goal.returns-clause-events
returns-clause-events c = more-events

pub returns-clause-batches : goal.returns-clause-batches
returns-clause-batches c = more-batches
