-- A capped size is judged as the exact one.
use Rattle.std.proofs.Common.{◌≡◌, ℕ, ◌<◌, ◌≤◌, Bool, true, false, List, ◌++◌, length, refl, sym, ap, ◌∙◌, arith, inl}
use Rattle.std.proofs.Common.{inr}
use Rattle.std.proofs.lemmas.Bool.{cases_lt}
use Rattle.std.proofs.lemmas.Bool.Decides.{nat_tests}
use Rattle.std.specs.Prelude.{◌||◌, nat_lt, if◌then◌else◌, Option, None, Some, Result, Ok, Err}
use Rattle.fixed_point.specs.declared.refusal.DecimalRefusal.{DecimalRefusal}
use Rattle.fixed_point.specs.declared.refusal.DecimalRefusal.TheVariants.{OutOfRange}
use Rattle.wire_bytes.specs.Digits.{number_of}
use Rattle.fixed_point.specs.Decimal.{are_digits, scaled, fraction_of, fraction, is_negative, without_sign, whole}
use Rattle.fixed_point.specs.Decimal.{behind, within, amount_of, amount, is_below_zero}
use Rattle.fixed_point.specs.Steps.{capped, capped_size, scaled_size}

-- what becomes of a size
abbrev pub judged : ℕ → ℕ → Bool → Result ℕ DecimalRefusal → Result ℕ DecimalRefusal
judged least most negative (Err refusal) = Err refusal
judged least most negative (Ok n) = within least most negative (Some n)

or_right : (a b : Bool) → b ≡ true → (a || b) ≡ true
or_right true b h = refl
or_right false b h = h

pub above_most : (least most n : ℕ) (negative : Bool) → most < n → within least most negative (Some n) ≡ Err OutOfRange
unfolding within
above_most least most n negative above =
    let test : nat_lt most n ≡ true = grind (arith, nat_tests) in
    rw (or_right (is_below_zero negative n) (nat_lt n least || nat_lt most n)
    (or_right (nat_lt n least) (nat_lt most n) test)) refl

pub below_least : (least most n : ℕ) (negative : Bool) → n < least
    → within least most negative (Some n) ≡ Err OutOfRange
unfolding within
below_least least most n negative below =
    let test : nat_lt n least ≡ true = grind (arith, nat_tests) in
    let one : (nat_lt n least || nat_lt most n) ≡ true = rw test refl in
    rw (or_right (is_below_zero negative n) (nat_lt n least || nat_lt most n) one) refl

pub below_zero : (least most n : ℕ) (negative : Bool) → negative ≡ true → 0 < n
    → within least most negative (Some n) ≡ Err OutOfRange
unfolding within
below_zero least most n negative e some =
    let test : nat_lt 0 n ≡ true = grind (arith, nat_tests) in
    rw (e, test) refl

pub in_range : (least most n : ℕ) (negative : Bool) → (negative ≡ true → n ≡ 0) → least ≤ n → n ≤ most
    → within least most negative (Some n) ≡ Ok n
unfolding within
in_range least most n negative none low high =
    let one : nat_lt n least ≡ false = grind (arith, nat_tests) in
    let two : nat_lt most n ≡ false = grind (arith, nat_tests) in
    rw (not_below negative n none, one, two) refl
  where
    not_below : (negative : Bool) (n : ℕ) → (negative ≡ true → n ≡ 0) → is_below_zero negative n ≡ false
    not_below false n h = refl
    not_below true n h = rw (h refl) refl

-- all above the greatest amount are refused alike
within_capped : (least most n : ℕ) (negative : Bool) → most < 100_000_000_000
    → within least most negative (Some n) ≡ within least most negative (Some (capped n))
within_capped least most n negative low =
    elim (cases_lt most n) [
      | inl above ↦
          let also : most < capped n = omega arith in
          above_most least most n negative above ∙ sym (above_most least most (capped n) negative also)
      | inr fits ↦
          let same : capped n ≡ n = omega arith in
          rw same refl
    ]

judged_size : (least most : ℕ) (negative : Bool) (o : Option ℕ) → most < 100_000_000_000
    → within least most negative o ≡ judged least most negative (capped_size o)
unfolding within
judged_size least most negative None low = refl
judged_size least most negative (Some n) low = within_capped least most n negative low

-- the sign doesn't matter to the size
same_scaled : (scale digits places : ℕ) (negative : Bool)
    → scaled scale (record { negative = negative; digits = digits; places = places })
    ≡ scaled scale (record { negative = false; digits = digits; places = places })
unfolding scaled
same_scaled scale digits places negative = refl

judged_fraction : (scale least most digits places : ℕ) (negative test : Bool) → most < 100_000_000_000
    → amount_of scale least most (if test then Some
    (record { negative = negative; digits = digits; places = places }) else None)
    ≡ judged least most negative (scaled_size scale
    (if test then Some (record { negative = false; digits = digits; places = places }) else None))
unfolding amount_of scaled_size
judged_fraction scale least most digits places negative false low = refl
judged_fraction scale least most digits places negative true low =
    ap (within least most negative) (same_scaled scale digits places negative)
    ∙ judged_size least most negative (scaled scale (record { negative = false; digits = digits; places = places })) low

-- the amount that a text says, from the size of its parts
pub amount_by_size : (scale least most : ℕ) (text rest front back : List ℕ) (negative : Bool)
    (result : Result ℕ DecimalRefusal)
    → most < 100_000_000_000
    → negative ≡ is_negative text → rest ≡ without_sign text → front ≡ whole rest → back ≡ behind rest
    → result ≡ scaled_size scale (fraction_of false front back)
    → judged least most negative result ≡ amount scale least most text
unfolding amount fraction
amount_by_size scale least most text rest front back negative result low n r f b e =
    let judged_of = judged_fraction scale least most (number_of (front ++ back)) (length back) negative
    (are_digits (front ++ back)) low in
    let parts : fraction_of negative front back
    ≡ fraction_of (is_negative text) (whole (without_sign text)) (behind (without_sign text)) = rw (f, b, r, n) refl
    in
    ap (judged least most negative) e ∙ sym judged_of ∙ ap (amount_of scale least most) parts
