-- The text of an order token.
use Rattle.std.specs.Prelude.{ℕ, zero, suc, ◌+◌, ◌/◌, ◌%◌, ◌≤◌, List, [], ◌∷◌, ◌++◌}

-- The last k decimal digits of a number, the highest first.
unfoldable pub last_digits : ℕ → ℕ → List ℕ
last_digits zero n = []
last_digits (suc k) n = last_digits k (n / 10) ++ (48 + n % 10) ∷ []

-- `G` and 13 digits: 14 bytes, as many as an order token has. (OUCH 4.2, Enter Order Message, order token; the form
-- is this gateway's own.)
abbrev pub token_text : ℕ → List ℕ
token_text n = 71 ∷ last_digits 13 n

-- A number that has a token: from 1, and of at most 13 digits.
pub record HasToken (n : ℕ) : Type 0 where
  pub some : 1 ≤ n
  pub short : n ≤ 9_999_999_999_999
