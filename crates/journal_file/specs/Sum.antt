-- The sum of a page: FNV-1a of 64 bits, taken over words of eight bytes, the high byte first, the last one filled up
-- with zeros. It tells a torn write from a whole one; it is no seal. (The form is the gateway's own; FNV-1a: the
-- authors' offset basis and prime of 64 bits.)
use Rattle.std.specs.Prelude.{◌≡◌, ℕ, zero, suc, ◌*◌, ◌%◌, ◌^◌, List, [], ◌∷◌, ◌++◌, length, drop, take, bit_xor}
use Rattle.std.specs.Int.{w64, from_be_bytes}

-- one word more
abbrev pub mixed : ℕ → ℕ → ℕ
mixed sum word = (bit_xor sum word * 1_099_511_628_211) % 2 ^ 64

-- Words one after another: a look takes eight bytes, or those that are left, as if zeros stood behind them. As many
-- looks as there are bytes are enough.
abbrev pub sum_by_looks : ℕ → ℕ → List ℕ → ℕ
sum_by_looks zero sum bytes = sum
sum_by_looks (suc looks) sum [] = sum
sum_by_looks (suc looks) sum (b ∷ bytes) =
    sum_by_looks looks (mixed sum (from_be_bytes w64 (b ∷ bytes))) (drop 8 (b ∷ bytes))

-- more bytes behind some with this sum
abbrev pub sum_from : ℕ → List ℕ → ℕ
sum_from sum bytes = sum_by_looks (length bytes) sum bytes

-- the sum of no bytes
abbrev pub basis : ℕ
basis = 14_695_981_039_346_656_037

abbrev pub sum_of : List ℕ → ℕ
sum_of bytes = sum_from basis bytes

-- What is kept of bytes that come piece by piece: the sum of the whole words, and in front of a word the bytes behind
-- them.
pub record IsRunning (bytes : List ℕ) (sum : ℕ) (word : List ℕ) (size : ℕ) : Type 0 where
  pub whole : List ℕ
  pub words : ℕ
  pub count : length whole ≡ words * 8
  pub parts : bytes ≡ whole ++ take (size % 8) word
  pub summed : sum ≡ sum_from basis whole
  pub sized : size ≡ length bytes
  pub room : length word ≡ 8
