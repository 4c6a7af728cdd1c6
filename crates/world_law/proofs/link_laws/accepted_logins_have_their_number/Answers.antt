use Rattle.world_law.proofs.Logins.{login-accepted}
use Rattle.world_law.proofs.link_laws.accepted_logins_have_their_number.Goals as goal

pub returns : goal.returns
returns c = login-accepted
