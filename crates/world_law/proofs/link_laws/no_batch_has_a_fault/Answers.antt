use Rattle.world_law.proofs.LinksAtRest.{no-faults}
use Rattle.world_law.proofs.link_laws.no_batch_has_a_fault.Goals as goal

pub returns : goal.returns
returns c = no-faults
