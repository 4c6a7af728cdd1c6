-- Bytes by their hexadecimal digits, two a byte, the high one first.
use Rattle.std.specs.Prelude.{ℕ, ◌+◌, ◌*◌, Bool, true, false, ◌&&◌, nat_lt, List, [], ◌∷◌}
use Rattle.std.specs.Char.{digit_value}

-- `0` to `9`, `A` to `F` or `a` to `f`
abbrev pub is_digit : ℕ → Bool
is_digit code = nat_lt (digit_value code) 16

-- digits alone, two and two
abbrev pub are_bytes : List ℕ → Bool
are_bytes [] = true
are_bytes (digit ∷ []) = false
are_bytes (high ∷ (low ∷ others)) = (is_digit high && is_digit low) && are_bytes others

-- the bytes that they say
abbrev pub bytes_in : List ℕ → List ℕ
bytes_in [] = []
bytes_in (digit ∷ []) = []
bytes_in (high ∷ (low ∷ others)) = (digit_value high * 16 + digit_value low) ∷ bytes_in others
