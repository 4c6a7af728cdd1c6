-- The words of a line.
use Rattle.std.specs.Prelude.{ℕ, ◌-◌, List, [], ◌∷◌, length, take, drop, decimal}
use Rattle.std.specs.Char.{is_ascii_whitespace}
use Rattle.std.specs.List.{prefix_len, suffix_len}

-- a text without the spaces behind it
abbrev pub trimmed : List ℕ → List ℕ
trimmed text = take (length text - suffix_len is_ascii_whitespace text) text

-- a text without the spaces before it
abbrev pub started : List ℕ → List ℕ
started text = drop (prefix_len is_ascii_whitespace text) text

-- a text without the spaces on both sides
abbrev pub bare : List ℕ → List ℕ
bare text = trimmed (started text)

-- a space and a text without the spaces behind it
abbrev pub word : List ℕ → List ℕ
word text = 32 ∷ trimmed text

-- a space and a letter
abbrev pub letter : ℕ → List ℕ
letter byte = word (byte ∷ [])

-- a space and a number
abbrev pub shown_number : ℕ → List ℕ
shown_number n = 32 ∷ decimal n
