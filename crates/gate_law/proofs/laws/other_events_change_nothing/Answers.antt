use Rattle.gate_law.proofs.Other.{other-batch, other-lists}
use Rattle.gate_law.proofs.laws.other_events_change_nothing.Goals as goal

pub returns-clause-batch : goal.returns-clause-batch
returns-clause-batch c = other-batch

pub returns-clause-lists : goal.returns-clause-lists
returns-clause-lists c = other-lists
