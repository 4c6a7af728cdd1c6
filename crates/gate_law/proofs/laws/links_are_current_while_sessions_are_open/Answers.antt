use Rattle.soup_session.proofs.Closes.{ends_by_close}
use Rattle.gate_law.proofs.Links.{links-current}
use Rattle.gate_law.proofs.laws.links_are_current_while_sessions_are_open.Goals as goal

pub returns : goal.returns
returns c = links-current ends_by_close
