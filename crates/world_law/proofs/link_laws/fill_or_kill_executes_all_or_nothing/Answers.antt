use Rattle.world_law.proofs.LinksAtRest.{fills-or-kills}
use Rattle.world_law.proofs.link_laws.fill_or_kill_executes_all_or_nothing.Goals as goal

pub returns : goal.returns
returns c = fills-or-kills
