use Rattle.world_law.proofs.Logins.{login-asks}
use Rattle.world_law.proofs.link_laws.logins_have_their_number.Goals as goal

pub returns : goal.returns
returns c = login-asks
