use Rattle.ouch_codec.proofs.Reading.{reads-order_state}
use Rattle.ouch_codec.proofs.field.order_state_at.Goals as goal

pub returns : goal.returns
returns c = reads-order_state c.args.at c.args.bytes.now _ c.of_letter.ensures
