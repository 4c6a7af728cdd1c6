use Rattle.std.proofs.Common.{arith, sym, ◌∙◌}
use Rattle.ouch_codec.specs.DecodingLaws.{one_answer}
use Rattle.ouch_codec.specs.RowReading.{AreBytes}
use Rattle.ouch_codec.specs.Values.{decoded}
use Rattle.ouch_codec.proofs.Decoded.{are_bytes, decoded-Decodes}
use Rattle.ouch_codec.proofs.outbound.decode.Goals as goal

pub returns : goal.returns
returns c =
    let b = c.args.payload.now in
    let below : AreBytes b = λ i. omega (arith, c.type_inv.payload i) in
    one_answer b _ (decoded b) c.decode_any.ensures (decoded-Decodes b (are_bytes b below))
