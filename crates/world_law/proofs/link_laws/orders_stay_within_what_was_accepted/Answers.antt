use Rattle.world_law.proofs.LinksAtRest.{stay-within}
use Rattle.world_law.proofs.link_laws.orders_stay_within_what_was_accepted.Goals as goal

pub returns : goal.returns
returns c = stay-within
