-- The words of a text, by its first space.
use Rattle.std.proofs.Common.{◌≡◌, ℕ, ◌+◌, ◌-◌, ◌≤◌, Bool, true, false, List, [], ◌∷◌, length, take, drop, refl, sym}
use Rattle.std.proofs.Common.{ap, ◌∙◌, arith, Some, None}
use Rattle.std.specs.Prelude.{◌==◌, nat_lt, count_by}
use mathlib.Core.Bool.{cond}
use Rattle.std.specs.List.{position, position_or_len}
use Rattle.std.proofs.lemmas.Bool.Decides.{nat_tests}
use Rattle.std.proofs.lemmas.List.{take_rest}
use Rattle.std.proofs.lemmas.List.Elements.{All-from_get_or}
use Rattle.std.proofs.lemmas.List.Quantifiers.{position-Some}
use Rattle.std.proofs.lemmas.List.Splits.{slice_split_first, slice_split_none, length-slice_split}
use Rattle.std.proofs.lemmas.List.Sums.{fails_before_first, position_or_len_is}
use Rattle.script_lines.specs.Words.{words_of}

abbrev is_space : ℕ → Bool
is_space byte = byte == 32

failed : (b : Bool) (n : ℕ) → cond b (Some n) None ≡ None → b ≡ false
failed true n h = absurd cc
failed false n h = refl

not_less : (m n : ℕ) → nat_lt m n ≡ false → n ≤ m
not_less m n h = grind (arith, nat_tests)

-- without a space a text is one word
pub one_word : (text : List ℕ) → position (λ byte. byte == 32) text ≡ None → words_of text ≡ text ∷ []
one_word text h =
    let past : length text ≤ position_or_len is_space text =
    not_less (position_or_len is_space text) (length text)
    (failed (nat_lt (position_or_len is_space text) (length text)) (position_or_len is_space text) h) in
    slice_split_none is_space text (All-from_get_or (λ x. is_space x ≡ false) text 0
    (λ i inside. fails_before_first is_space text i 0 (omega arith)))

-- the first space ends the first word, and the others are those of the text behind it
pub first_and_others : (text : List ℕ) (at : ℕ) → position (λ byte. byte == 32) text ≡ Some at
    → words_of text ≡ take at text ∷ words_of (drop (at + 1) text)
first_and_others text at h =
    let p = position-Some is_space text at 0 h in
    let at-is : position_or_len is_space text ≡ at =
    position_or_len_is is_space text at 0 (omega (arith, p.0)) p.2 (λ _. p.1) in
    let cut = slice_split_first is_space text 0 (rw at-is p.0) in
    cut ∙ ap (λ n. take n text ∷ words_of (drop (n + 1) text)) at-is

-- as the code cuts it
pub first_and_rest : (text : List ℕ) (at : ℕ) → position (λ byte. byte == 32) text ≡ Some at
    → words_of text ≡ take at text ∷ words_of (take (length text - (at + 1)) (drop (at + 1) text))
first_and_rest text at h = first_and_others text at h
    ∙ ap (λ rest. take at text ∷ words_of rest) (sym (take_rest text (at + 1)))

-- a text with a space has more than one
pub two_words : (text : List ℕ) (at : ℕ) → position (λ byte. byte == 32) text ≡ Some at → length (words_of text) ≡ 1 → ⊥
two_words text at h one =
    let cut : length (words_of text) ≡ length (take at text ∷ words_of (drop (at + 1) text)) =
    ap length (first_and_others text at h) in
    let behind : length (words_of (drop (at + 1) text)) ≡ count_by is_space (drop (at + 1) text) + 1 =
    length-slice_split is_space (drop (at + 1) text) in
    omega arith
