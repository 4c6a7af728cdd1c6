use Rattle.world_law.proofs.Asking.{client-after}
use Rattle.world_law.proofs.core_laws.clients_send_what_they_ask.Goals as goal

pub returns : goal.returns
returns c = client-after
