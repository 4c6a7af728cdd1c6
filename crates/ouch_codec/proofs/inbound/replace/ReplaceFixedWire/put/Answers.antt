use Rattle.std.proofs.Common.{refl}
use Rattle.ouch_codec.proofs.inbound.replace.ReplaceFixedWire.put.Goals as goal

pub returns : goal.returns
returns c =
    rw c.put_fields.ensures (rw (
      c.number_bytes.ensures,
      c.number_bytes-2.ensures,
      c.number_bytes-3.ensures,
      c.number_bytes-4.ensures,
    ) refl)
