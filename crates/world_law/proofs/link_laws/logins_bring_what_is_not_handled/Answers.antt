use Rattle.world_law.proofs.Moving.{not-handled}
use Rattle.world_law.proofs.link_laws.logins_bring_what_is_not_handled.Goals as goal

pub returns : goal.returns
returns c = not-handled
