use Rattle.std.proofs.Common.{◌≡◌, ◌≤◌, ◌+◌, ◌++◌, length, take}
use Rattle.std.specs.Vec.{vec_len, vec_capacity}
use Rattle.fix_fields.proofs.written.append_bytes.Given as goal

-- what was gone over stands behind the text, in the room that there was
abbrev pub invariant-loop-byte : goal.invariant-loop-byte
invariant-loop-byte l =
    (l.text.items ≡ l.initial.text.items ++ take l.byte-index l.bytes)
    × (vec_len l.text ≡ vec_len l.initial.text + l.byte-index)
    × (vec_capacity l.text ≡ vec_capacity l.initial.text)
    × (l.byte-index ≤ length l.bytes)
