use Rattle.world_law.proofs.LinksAtRest.{rests-alike}
use Rattle.world_law.proofs.link_laws.at_rest_both_agree.Goals as goal

pub returns : goal.returns
returns c = rests-alike
