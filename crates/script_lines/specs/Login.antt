-- What the words of a `login` line say.
--
-- Source: SoupBinTCP 3.00, "Login Accepted Packet": a session of 10 bytes and a number of 20, padded left with spaces.
use Rattle.std.specs.Prelude.{◌≡◌, ℕ, ◌-◌, Bool, ◌&&◌, nat_le, List, [], ◌∷◌, ◌++◌, length, replicate}
use Rattle.std.specs.Char.{is_ascii_digit}
use Rattle.std.specs.List.{list_all}

-- the name of a session: 1 to 10 bytes
unfoldable pub is_session : List ℕ → Bool
is_session word = nat_le 1 (length word) && nat_le (length word) 10

-- a number that the field holds: 1 to 20 digits
unfoldable pub is_sequence_number : List ℕ → Bool
is_sequence_number word = nat_le 1 (length word) && (nat_le (length word) 20 && list_all is_ascii_digit word)

-- `S N`
abbrev pub login_forms : List (List ℕ → Bool)
login_forms = is_session ∷ is_sequence_number ∷ []

-- the fields, padded left
abbrev pub session_field : List ℕ → List ℕ
session_field word = replicate (10 - length word) 32 ++ word

abbrev pub number_field : List ℕ → List ℕ
number_field word = replicate (20 - length word) 32 ++ word

abbrev pub SaysLogin : List (List ℕ) → List ℕ → List ℕ → Type 0
SaysLogin (session ∷ (next ∷ [])) field number = (field ≡ session_field session) × (number ≡ number_field next)
SaysLogin words field number = ⊥
