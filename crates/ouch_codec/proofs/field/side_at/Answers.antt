use Rattle.ouch_codec.proofs.Reading.{reads-side}
use Rattle.ouch_codec.proofs.field.side_at.Goals as goal

pub returns : goal.returns
returns c = reads-side c.args.at c.args.bytes.now _ c.of_letter.ensures
