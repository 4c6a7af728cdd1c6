-- What `trim_ascii` leaves, as a function of the field.
use Rattle.std.proofs.Common.{refl}
use Rattle.std.proofs.lemmas.Str.Ascii.{trim_ascii_is}
use Rattle.gate_lines.specs.Words.{started}
use Rattle.gate_lines.proofs.packets.bare.Goals as goal

pub returns : goal.returns
returns c = trim_ascii_is c.args.field.now c.trim_ascii.result.now
    (started c.args.field.now) refl c.trim_ascii.ensures.value
