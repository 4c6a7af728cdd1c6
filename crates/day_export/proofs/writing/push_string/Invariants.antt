use Rattle.std.proofs.Common.{◌≡◌, ◌++◌, take}
use Rattle.std.specs.List.{flat_map}
use Rattle.day_export.specs.Forms.{string_byte}
use Rattle.day_export.proofs.writing.push_string.Given as goal

-- those of the bytes so far
abbrev pub invariant-loop-byte : goal.invariant-loop-byte
invariant-loop-byte l = l.text.items ≡ l.initial.text.items ++ flat_map string_byte (take l.byte-index l.value)
