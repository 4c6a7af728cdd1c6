-- The words of a line, and the numbers that they say.
use Rattle.std.specs.Prelude.{◌≡◌, ℕ, ◌<◌, ◌==◌, List, length, true}
use Rattle.std.specs.Char.{is_ascii_digit}
use Rattle.std.specs.List.{list_all, slice_split}
use Rattle.wire_bytes.specs.Digits.{number_of}

-- what stands before the first space, between two, and behind the last
abbrev pub words_of : List ℕ → List (List ℕ)
words_of text = slice_split (λ byte. byte == 32) text

-- decimal digits, one at least, zeros in front allowed, whose number is below a limit
abbrev pub IsNumberBelow : ℕ → List ℕ → Type 0
IsNumberBelow limit word = (list_all is_ascii_digit word ≡ true) × (0 < length word) × (number_of word < limit)

-- the number that digits say
abbrev pub number_in : List ℕ → ℕ
number_in word = number_of word
