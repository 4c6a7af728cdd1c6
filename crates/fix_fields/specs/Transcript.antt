-- Messages written down: text with `|` for SOH, none behind the last field.
use Rattle.std.specs.Prelude.{ℕ, ◌==◌, Bool, List, [], ◌∷◌, if◌then◌else◌}
use Rattle.std.specs.List.{before_first, after_first}
use Rattle.wire_bytes.specs.Digits.{number_of}
use Rattle.fix_fields.specs.Field.{Field, Message, field}

abbrev is_equals : ℕ → Bool
is_equals byte = byte == 61

abbrev field_of : List ℕ → Field
field_of text = field (number_of (before_first is_equals text)) (after_first is_equals text)

-- the first field's text as far as it is read, and the fields behind it
abbrev Parts : Type 0
Parts = List ℕ × List Field

abbrev field_before : ℕ → Parts → Parts
field_before byte parts = if byte == 124 then ([], field_of parts.0 ∷ parts.1) else (byte ∷ parts.0, parts.1)

abbrev parts_of : List ℕ → Parts
parts_of [] = ([], [])
parts_of (byte ∷ bytes) = field_before byte (parts_of bytes)

-- the message that is written so
abbrev pub message : List ℕ → Message
message text = let parts = parts_of text in field_of parts.0 ∷ parts.1
