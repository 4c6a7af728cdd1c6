use Rattle.world_law.proofs.Arrivals.{accepted-after}
use Rattle.world_law.proofs.core_laws.accepted_logins_ask_again.Goals as goal

pub returns : goal.returns
returns c = accepted-after
