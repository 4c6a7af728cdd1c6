-- What digits stand for.
use Rattle.std.proofs.Common.{◌≡◌, ◌≢◌, ℕ, ◌+◌, ◌-◌, ◌*◌, ◌^◌, ◌<◌, ◌≤◌, Bool, true, false, List, [], ◌∷◌, length}
use Rattle.std.proofs.Common.{get_or, take, refl, sym, ap, ◌∙◌, arith, min, inl, inr, add-one}
use Rattle.std.proofs.Math.Nat.{pow-suc, mul-le-mul_right}
use Rattle.std.proofs.lemmas.List.{take_all, take_more}
use Rattle.std.proofs.lemmas.List.Folds.{list_all_at}
use Rattle.std.proofs.lemmas.Bool.{false≢true, and_parts}
use Rattle.std.proofs.lemmas.Bool.Decides.{nat_tests}
use Rattle.std.specs.Prelude.{◌==◌, ◌&&◌, ◌⊎◌, None, Some}
use Rattle.std.specs.List.{list_all}
use Rattle.std.specs.Char.{is_ascii_digit}
use Rattle.wire_bytes.specs.Digits.{number_of}
use Rattle.wire_bytes.proofs.Numbers.{digit_range, number_of-push, power_of_ten-pos, number_of_short}
use Rattle.fixed_point.specs.Steps.{capped, read_on}

and_fails : (a b : Bool) → (a && b) ≡ false → (a ≡ false) ⊎ (b ≡ false)
and_fails true b h = inr h
and_fails false b h = inl refl

is_zero : (d : ℕ) → (d == 48) ≡ true → d ≡ 48
is_zero d h = grind (arith, nat_tests)

not_zero : (d : ℕ) → (d == 48) ≡ false → d ≢ 48
not_zero d h = grind (arith, nat_tests)

pub first_digit : (d : ℕ) (ds : List ℕ) → list_all is_ascii_digit (d ∷ ds) ≡ true → (48 ≤ d) × (d ≤ 57)
first_digit d ds h = digit_range d (and_parts (is_ascii_digit d) (list_all is_ascii_digit ds) h).0

pub other_digits : (d : ℕ) (ds : List ℕ) → list_all is_ascii_digit (d ∷ ds) ≡ true → list_all is_ascii_digit ds ≡ true
other_digits d ds h = (and_parts (is_ascii_digit d) (list_all is_ascii_digit ds) h).1

pub number_of-lt : (ds : List ℕ) → list_all is_ascii_digit ds ≡ true → number_of ds < 10 ^ length ds
number_of-lt ds h = number_of_short ds (length ds) h (omega arith)

pub zeros_number : (ds : List ℕ) → list_all (λ d. d == 48) ds ≡ true → number_of ds ≡ 0
zeros_number [] h = refl
zeros_number (d ∷ ds) h =
    let parts = and_parts (d == 48) (list_all (λ x. x == 48) ds) h in
    rw (is_zero d parts.0) (omega (arith, zeros_number ds parts.1))

pub number_of-pos : (ds : List ℕ) → list_all is_ascii_digit ds ≡ true → list_all (λ d. d == 48) ds ≡ false
    → 1 ≤ number_of ds
number_of-pos [] h some = absurd (false≢true (sym some))
number_of-pos (d ∷ ds) h some =
    elim (and_fails (d == 48) (list_all (λ x. x == 48) ds) some) [
      | inl here ↦
          let range = first_digit d ds h in
          let ne = not_zero d here in
          let one : 1 ≤ d - 48 = omega (arith, ne) in
          omega (arith, mul-le-mul_right (10 ^ length ds) one, power_of_ten-pos (length ds))
      | inr later ↦ omega (arith, number_of-pos ds (other_digits d ds h) later)
    ]

-- one more digit, capped
step : (limit s p x number next d y q : ℕ) → number ≡ min (s * p + x) limit → next ≡ min (10 * number + d) limit
    → y ≡ 10 * x + d → q ≡ 10 * p → next ≡ min (s * q + y) limit
step limit s p x number next d y q a b c e =
    let m : s * q ≡ 10 * (s * p) = rw e (omega arith) in
    omega arith

pub read_on_step : (start number next digit i : ℕ) (ds : List ℕ) → i < length ds
    → number ≡ capped (start * 10 ^ i + number_of (take i ds)) → next ≡ capped (10 * number + digit)
    → digit ≡ get_or ds i 0 - 48 → next ≡ capped (start * 10 ^ (i + 1) + number_of (take (i + 1) ds))
read_on_step start number next digit i ds lt e f g =
    step 100_000_000_000 start (10 ^ i) (number_of (take i ds)) number next (get_or ds i 0 - 48)
    (number_of (take (i + 1) ds)) (10 ^ (i + 1)) e
    (f ∙ ap (λ x. capped (10 * number + x)) g)
    (ap number_of (take_more ds i 0 lt) ∙ number_of-push (take i ds) (get_or ds i 0))
    (rw add-one (omega (arith, pow-suc 10 i)))

pub read_on_whole : (start number i : ℕ) (ds : List ℕ) → length ds ≤ i → i ≤ length ds
    → list_all is_ascii_digit (take i ds) ≡ true → number ≡ capped (start * 10 ^ i + number_of (take i ds))
    → Some number ≡ read_on start ds
unfolding read_on
read_on_whole start number i ds ge le h e =
    let len : i ≡ length ds = omega arith in
    let all : list_all is_ascii_digit ds ≡ true = ap (list_all is_ascii_digit) (sym (take_all i ds ge)) ∙ h in
    rw all (ap Some (e ∙ rw (len, take_all (length ds) ds (omega arith)) refl))

pub read_on_none : (start i : ℕ) (ds : List ℕ) → i < length ds → is_ascii_digit (get_or ds i 0) ≡ false
    → None ≡ read_on start ds
unfolding read_on
read_on_none start i ds lt h = rw (list_all_at is_ascii_digit ds i 0 lt h) refl
