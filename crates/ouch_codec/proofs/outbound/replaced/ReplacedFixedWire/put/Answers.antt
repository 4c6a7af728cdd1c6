use Rattle.std.proofs.Common.{refl}
use Rattle.ouch_codec.proofs.outbound.replaced.ReplacedFixedWire.put.Goals as goal

pub returns : goal.returns
returns c =
    rw c.put_fields.ensures (rw (
      c.long_number_bytes.ensures,
      c.letter.ensures,
      c.number_bytes.ensures,
      c.number_bytes-2.ensures,
      c.number_bytes-3.ensures,
      c.long_number_bytes-2.ensures,
      c.number_bytes-4.ensures,
      c.letter-2.ensures,
    ) refl)
