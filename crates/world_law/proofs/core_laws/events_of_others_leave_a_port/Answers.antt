use Rattle.world_law.proofs.Ports.{other-after, unstepped-after}
use Rattle.world_law.proofs.core_laws.events_of_others_leave_a_port.Goals as goal

pub returns-clause-other : goal.returns-clause-other
returns-clause-other c = other-after

pub returns-clause-unstepped : goal.returns-clause-unstepped
returns-clause-unstepped c = unstepped-after
