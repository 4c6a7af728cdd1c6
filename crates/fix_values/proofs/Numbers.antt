-- Numbers as they are written.
use Rattle.std.proofs.Common.{◌≡◌, true, ℕ, ◌^◌, ◌<◌, ◌≤◌, List, length, refl, arith, decimal}
use Rattle.std.specs.Prelude.{Bool, false, nat_le, nat_lt, Option, None, Some, SomeIff, MatchOption}
use Rattle.std.specs.Char.{is_ascii_digit}
use Rattle.std.specs.List.{list_all}
use Rattle.std.proofs.lemmas.Bool.Decides.{nat_tests}
use Rattle.std.proofs.lemmas.Fmt.{digits_decimal, digits_value-decimal, decimal_nonempty, length-decimal-le}
use Rattle.wire_bytes.specs.Digits.{number_of, AreDigitsBelow}
use Rattle.wire_bytes.proofs.Numbers.{own}
use Rattle.fix_values.specs.Formats.{is_number}

-- a number is read as it was written
pub number_of-decimal : (n : ℕ) → n < 2 ^ 64 → number_of (decimal n) ≡ n
number_of-decimal n h = digits_value-decimal own n h

le_test : (m n : ℕ) → m ≤ n → nat_le m n ≡ true
le_test m n h = grind (arith, nat_tests)

lt_test : (m n : ℕ) → m < n → nat_lt m n ≡ true
lt_test m n h = grind (arith, nat_tests)

pub is_number-decimal : (n : ℕ) → n < 2 ^ 64 → is_number (decimal n) ≡ true
is_number-decimal n h =
    rw (
      le_test 1 (length (decimal n)) (decimal_nonempty n h),
      le_test (length (decimal n)) 20
          (length-decimal-le 20 n (omega arith) (omega arith) h),
      digits_decimal own n h,
      number_of-decimal n h,
      lt_test n
          (2 ^ 64) h,
    ) refl

-- 1 to 20 digits are read where 64 bits hold their number
pub number_read : (read : Option ℕ) (ds : List ℕ) → SomeIff read (AreDigitsBelow (2 ^ 64) ds) (number_of ds)
    → 1 ≤ length ds → length ds ≤ 20 → MatchOption read (is_number ds ≡ false)
    (λ n. (is_number ds ≡ true) × (n ≡ number_of ds))
number_read None ds h some few = not_below (list_all is_ascii_digit ds) refl
  where
    not_below : (b : Bool) → list_all is_ascii_digit ds ≡ b → is_number ds ≡ false
    not_below true e = let large : nat_lt (number_of ds) (2 ^ 64) ≡ false = grind (arith, nat_tests, h) in
        rw (le_test 1 (length ds) some, le_test (length ds) 20 few, e, large) refl
    not_below false e = rw (le_test 1 (length ds) some, le_test (length ds) 20 few, e) refl
number_read (Some n) ds h some few = (
  rw (le_test 1 (length ds) some, le_test (length ds) 20 few, h.0.0, lt_test (number_of ds) (2 ^ 64) h.0.1) refl,
  h.1,
)
