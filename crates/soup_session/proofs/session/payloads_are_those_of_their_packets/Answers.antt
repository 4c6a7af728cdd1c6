use Rattle.soup_session.proofs.Brought.{delivers-own}
use Rattle.soup_session.proofs.session.payloads_are_those_of_their_packets.Goals as goal

pub returns : goal.returns
returns c = delivers-own
