use Rattle.world_law.proofs.Arrivals.{quiet-packet}
use Rattle.world_law.proofs.core_laws.heartbeats_leave_a_port.Goals as goal

pub returns : goal.returns
returns c = quiet-packet
