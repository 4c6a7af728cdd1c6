use Rattle.world_law.proofs.LinksAtRest.{asks-once}
use Rattle.world_law.proofs.link_laws.what_is_asked_is_done_once.Goals as goal

pub returns : goal.returns
returns c = asks-once
