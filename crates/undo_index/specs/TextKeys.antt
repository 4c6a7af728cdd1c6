-- The key of a number with a text: the text's first 64 bytes, how many they are, and zeros behind them.
use Rattle.std.specs.Prelude.{ℕ, ◌+◌, ◌-◌, ◌*◌, ◌/◌, Bool, ◌&&◌, List, ◌++◌, length, min, take, replicate, nat_eq}
use Rattle.std.specs.Cmp.Lexicographic.{pointwise}
use Rattle.undo_index.specs.declared.text_key.TextKey.{TextKey}

abbrev pub text_key : ℕ → List ℕ → TextKey
text_key number text = record {
  number = number;
  len = length (take 64 text);
  bytes = take 64 text ++ replicate (64 - length (take 64 text)) 0;
}

-- keys are equal
abbrev pub same_key : TextKey → TextKey → Bool
same_key x y = nat_eq x.number y.number && (nat_eq x.len y.len && pointwise nat_eq x.bytes y.bytes)

-- in how many bytes so many lie in whole words of eight bytes, 64 at most
abbrev pub whole_words : ℕ → ℕ
whole_words len = (min len 57 + 7) / 8 * 8
