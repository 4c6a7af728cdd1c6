use Rattle.journal_records.proofs.Fits.{turn-writable}
use Rattle.journal_records.proofs.InOrder.{turn-behind, turn-order}
use Rattle.journal_records.proofs.laws.turns_are_whole.Goals as goal

pub returns-clause-writable : goal.returns-clause-writable
returns-clause-writable c = turn-writable

pub returns-clause-order : goal.returns-clause-order
returns-clause-order c = turn-order

pub returns-clause-end : goal.returns-clause-end
returns-clause-end c = turn-behind
