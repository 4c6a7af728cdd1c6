use Rattle.world_law.proofs.Decoded.{decoded-written}
use Rattle.world_law.proofs.link_laws.written_messages_are_decoded.Goals as goal

pub returns : goal.returns
returns c = decoded-written
