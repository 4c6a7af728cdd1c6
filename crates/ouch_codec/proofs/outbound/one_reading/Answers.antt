use Rattle.ouch_codec.proofs.Decoded.{decoded-Decodes}
use Rattle.ouch_codec.proofs.outbound.one_reading.Goals as goal

pub returns : goal.returns
returns c = decoded-Decodes
