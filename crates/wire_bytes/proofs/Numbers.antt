-- What digits stand for.
use Rattle.std.proofs.Common.{rules, ◌≡◌, ℕ, zero, suc, ◌+◌, ◌-◌, ◌*◌, ◌^◌, ◌<◌, ◌≤◌, true, false, List, [], ◌∷◌, ◌++◌}
use Rattle.std.proofs.Common.{length, get_or, take, drop, refl, sym, ap, ◌∙◌, arith, length-append}
use Rattle.std.proofs.Math.Nat.{pow-suc, mul-le-mul_left}
use Rattle.std.proofs.lemmas.Nat.{pow-add}
use Rattle.std.proofs.lemmas.List.{take-append-drop, take_more}
use Rattle.std.proofs.lemmas.List.Folds.{list_all_more}
use Rattle.std.proofs.lemmas.Bool.{false≢true}
use Rattle.std.proofs.lemmas.Bool.Decides.{nat_tests}
use Rattle.std.proofs.lemmas.Str.Parse.{IsNumeralModel, numerals_by_weight, digits_value_short}
use Rattle.std.specs.Prelude.{Bool, if◌then◌else◌, Option, None, Some, SomeIff, IfSome}
use Rattle.std.specs.Char.{is_ascii_digit}
use Rattle.std.specs.List.{list_all}
use Rattle.wire_bytes.specs.Digits.{number_of, AreDigitsBelow}

-- these digits and their number are std's
pub own : IsNumeralModel (λ ds. list_all is_ascii_digit ds ≡ true) number_of
own = numerals_by_weight _ (search rules) number_of (search rules)

pub digit_range : (d : ℕ) → is_ascii_digit d ≡ true → (48 ≤ d) × (d ≤ 57)
digit_range d h = (grind (arith, nat_tests), grind (arith, nat_tests))

weighed : (e r u p q v w : ℕ) → r ≡ p * q → u ≡ v * q + w → e * r + u ≡ (e * p + v) * q + w
weighed e r u p q v w h k = rw (h, k) (omega arith)

pub power-append : (xs ys : List ℕ) → 10 ^ length (xs ++ ys) ≡ 10 ^ length xs * 10 ^ length ys
power-append xs ys = ap (λ n. 10 ^ n) (length-append xs ys) ∙ pow-add 10 (length xs) (length ys)

pub number_of-append : (xs ys : List ℕ) → number_of (xs ++ ys) ≡ number_of xs * 10 ^ length ys + number_of ys
number_of-append [] ys = omega arith
number_of-append (d ∷ xs) ys =
    weighed (d - 48) (10 ^ length (xs ++ ys)) (number_of (xs ++ ys)) (10 ^ length xs) (10 ^ length ys) (number_of xs)
    (number_of ys) (power-append xs ys) (number_of-append xs ys)

pub number_of-push : (xs : List ℕ) (d : ℕ) → number_of (xs ++ d ∷ []) ≡ 10 * number_of xs + (d - 48)
number_of-push xs d = omega (arith, number_of-append xs (d ∷ []))

pub power_of_ten-pos : (n : ℕ) → 1 ≤ 10 ^ n
power_of_ten-pos zero = omega arith
power_of_ten-pos (suc n) = omega (arith, pow-suc 10 n, power_of_ten-pos n)

-- one digit more
pub number_of_more : (ds : List ℕ) (i : ℕ) → i < length ds
    → number_of (take (i + 1) ds) ≡ 10 * number_of (take i ds) + (get_or ds i 0 - 48)
number_of_more ds i lt = ap number_of (take_more ds i 0 lt) ∙ number_of-push (take i ds) (get_or ds i 0)

-- the digits so far make no more than all of them
pub number_of-take-le : (ds : List ℕ) (i : ℕ) → number_of (take i ds) ≤ number_of ds
number_of-take-le ds i =
    omega (
      arith,
      ap number_of (take-append-drop i ds),
      number_of-append (take i ds) (drop i ds),
      mul-le-mul_left
          (number_of (take i ds)) (power_of_ten-pos (length (drop i ds))),
    )

pub all_digits_more : (ds : List ℕ) (i : ℕ) → i < length ds → list_all is_ascii_digit (take i ds) ≡ true
    → is_ascii_digit (get_or ds i 0) ≡ true → list_all is_ascii_digit (take (i + 1) ds) ≡ true
all_digits_more ds i lt h d = list_all_more is_ascii_digit ds i 0 lt ∙ rw (h, d) refl

-- so many digits stand for less than that power of ten
pub number_of_short : (ds : List ℕ) (k : ℕ) → list_all is_ascii_digit ds ≡ true → length ds ≤ k → number_of ds < 10 ^ k
number_of_short ds k digits short = digits_value_short own ds k digits short

-- nor is what is read of them more
pub number_of_small : (read : Option ℕ) (ds : List ℕ) (k : ℕ) → SomeIff read (AreDigitsBelow (2 ^ 64) ds) (number_of ds)
    → length ds ≤ k → IfSome read (λ n. n < 10 ^ k)
number_of_small None ds k h short = tt
number_of_small (Some n) ds k h short = rw h.1 (number_of_short ds k h.0.0 short)

-- at most 19 digits have a number that 64 bits hold: `number_of` gives it just where all are digits
pub number_of_few : (read : Option ℕ) (ds : List ℕ) → SomeIff read (AreDigitsBelow (2 ^ 64) ds) (number_of ds)
    → length ds ≤ 19 → read ≡ (if list_all is_ascii_digit ds then Some (number_of ds) else None)
number_of_few read ds h few = by_test (list_all is_ascii_digit ds) refl read h
  where
    by_test : (b : Bool) → list_all is_ascii_digit ds ≡ b → (read : Option ℕ)
        → SomeIff read (AreDigitsBelow (2 ^ 64) ds) (number_of ds) → read ≡ (if b then Some (number_of ds) else None)
    by_test true e None h = let small = number_of_short ds 19 e few in absurd (h (e, omega arith))
    by_test true e (Some n) h = ap Some h.1
    by_test false e None h = refl
    by_test false e (Some n) h = absurd (false≢true (sym e ∙ h.0.0))
