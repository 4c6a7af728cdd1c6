-- Where a text is cut at its first point.
use Rattle.std.proofs.Common.{◌≡◌, ◌≢◌, ℕ, ◌+◌, ◌<◌, ◌≤◌, true, false, List, [], length, get_or, take, drop, sym, ap}
use Rattle.std.proofs.Common.{◌∙◌, arith}
use Rattle.std.proofs.lemmas.Bool.Decides.{nat_tests}
use Rattle.std.proofs.lemmas.List.{take_all, drop_all}
use Rattle.std.proofs.lemmas.List.Sums.{position_or_len_is}
use Rattle.std.specs.List.{position_or_len}
use Rattle.fixed_point.specs.Decimal.{is_point, whole, behind}

no_point : (byte : ℕ) → byte ≢ 46 → is_point byte ≡ false
no_point byte ne = grind (arith, nat_tests)

a_point : (byte : ℕ) → byte ≡ 46 → is_point byte ≡ true
a_point byte e = grind (arith, nat_tests)

-- the first point stands behind bytes that are none
first_point : (text : List ℕ) (i : ℕ) → i ≤ length text → ((k : ℕ) → k < i → get_or text k 0 ≢ 46)
    → (i < length text → get_or text i 0 ≡ 46) → position_or_len is_point text ≡ i
first_point text i le before here =
    position_or_len_is is_point text i 0 le (λ k lt. no_point (get_or text k 0) (before k lt))
    (λ lt. a_point (get_or text i 0) (here lt))

pub whole_before : (text : List ℕ) (i : ℕ) → i ≤ length text → ((k : ℕ) → k < i → get_or text k 0 ≢ 46)
    → (i < length text → get_or text i 0 ≡ 46) → take i text ≡ whole text
whole_before text i le before here = ap (λ k. take k text) (sym (first_point text i le before here))

pub behind_after : (text : List ℕ) (i : ℕ) → i ≤ length text → ((k : ℕ) → k < i → get_or text k 0 ≢ 46)
    → (i < length text → get_or text i 0 ≡ 46) → drop (i + 1) text ≡ behind text
behind_after text i le before here = ap (λ k. drop (k + 1) text) (sym (first_point text i le before here))

-- a text with no point is all whole
pub whole_of_all : (text : List ℕ) (i : ℕ) → length text ≤ i → i ≤ length text
    → ((k : ℕ) → k < i → get_or text k 0 ≢ 46) → text ≡ whole text
whole_of_all text i ge le before =
    sym (take_all i text ge) ∙ whole_before text i le before (λ lt. absurd (omega arith))

pub behind_none : (text : List ℕ) (i : ℕ) → length text ≤ i → i ≤ length text → ((k : ℕ) → k < i → get_or text k 0 ≢ 46)
    → behind text ≡ []
behind_none text i ge le before =
    sym (behind_after text i le before (λ lt. absurd (omega arith))) ∙ drop_all (i + 1) text (omega arith)
