use Rattle.ouch_codec.specs.DecodingLaws.{one_answer}
use Rattle.ouch_codec.proofs.outbound.one_answer.Goals as goal

pub returns : goal.returns
returns c = one_answer
