use Rattle.std.proofs.Common.{refl}
use Rattle.ouch_codec.proofs.outbound.executed.ExecutedFixedWire.put.Goals as goal

pub returns : goal.returns
returns c =
    rw c.put_fields.ensures (rw (
      c.long_number_bytes.ensures,
      c.number_bytes.ensures,
      c.number_bytes-2.ensures,
      c.long_number_bytes-2.ensures,
    ) refl)
