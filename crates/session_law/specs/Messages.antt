-- The numbers in the fields of a session's messages.
use Rattle.std.specs.Prelude.{ℕ, Bool, ◌&&◌, List, length, nat_le, Option, Some, None, if◌then◌else◌, decimal}
use Rattle.std.specs.Option.{option_and_then}
use Rattle.std.specs.List.{list_all}
use Rattle.std.specs.Char.{is_ascii_digit}
use Rattle.fix_framing.specs.fix_fields.Field.{Field, Message, field, first_value}
use Rattle.fix_framing.specs.wire_bytes.Digits.{number_of}

-- a number of the gateway's, written
abbrev pub number_as_field : ℕ → ℕ → Field
number_as_field tag n = field tag (decimal n)

-- A number in a field: 1 to 18 decimal digits.
abbrev pub is_short_number : List ℕ → Bool
is_short_number value = nat_le 1 (length value) && (nat_le (length value) 18 && list_all is_ascii_digit value)

abbrev pub number_in : List ℕ → Option ℕ
number_in value = if is_short_number value then Some (number_of value) else None

-- the number of a tag, where it has one
abbrev pub short_number : ℕ → Message → Option ℕ
short_number tag m = option_and_then number_in (first_value tag m)
