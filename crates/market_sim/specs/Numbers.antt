-- The number of a login, in a field of 20 bytes. (SoupBinTCP 3.00, "Login Request Packet", "Login Accepted Packet":
-- padded left with spaces.)
use Rattle.std.specs.Prelude.{ℕ, ◌-◌, ◌==◌, Bool, not, ◌&&◌, nat_le, List, [], ◌∷◌, ◌++◌, length, replicate, decimal}
use Rattle.std.specs.Prelude.{Option, Some, None, if◌then◌else◌, nat_lt, ◌^◌}
use Rattle.std.specs.Char.{is_ascii_digit}
use Rattle.std.specs.List.{list_all}
use Rattle.wire_bytes.specs.Digits.{number_of}

abbrev pub padded_number : ℕ → List ℕ
padded_number number = replicate (20 - length (decimal number)) 32 ++ decimal number

abbrev pub behind_spaces : List ℕ → List ℕ
behind_spaces [] = []
behind_spaces (c ∷ cs) = if c == 32 then behind_spaces cs else (c ∷ cs)

-- digits of 1 or more, below 2^64
abbrev pub is_number_asked : List ℕ → Bool
is_number_asked digits = not (length digits == 0) &&
    (list_all is_ascii_digit digits && (nat_le 1 (number_of digits) && nat_lt (number_of digits) (2 ^ 64)))

abbrev pub number_asked : List ℕ → Option ℕ
number_asked field = if is_number_asked (behind_spaces field) then Some (number_of (behind_spaces field)) else None
