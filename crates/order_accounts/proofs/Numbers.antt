-- Numbers that are read from texts.
use Rattle.std.proofs.Common.{◌≡◌, ℕ, ◌+◌, ◌*◌, ◌^◌, ◌<◌, ◌≤◌, Bool, true, false, List, length, get_or, take, refl}
use Rattle.std.proofs.Common.{arith}
use Rattle.std.proofs.lemmas.Bool.Decides.{nat_tests}
use Rattle.std.proofs.lemmas.Int.Digits.{digits_value_more}
use Rattle.std.proofs.lemmas.Str.Parse.{digits_value-take-le}
use Rattle.std.specs.Prelude.{nat_lt, if◌then◌else◌, unwrap_or, Option, None, Some, Result, Ok, Err}
use Rattle.std.specs.Char.{digit_value}
use Rattle.std.specs.Str.Parse.{digits_value}
use Rattle.order_law.specs.fixed_point.declared.worth.WorthRefusal.{WorthRefusal}
use Rattle.order_law.specs.fixed_point.declared.worth.WorthRefusal.TheVariants.{NoWorth, TooLarge}
use Rattle.order_law.specs.fixed_point.Worth.{counted}

-- one more digit
pub next_number : (number next : ℕ) (ds : List ℕ) (i : ℕ) → i < length ds → number ≡ digits_value 10 (take i ds)
    → next ≡ number * 10 + digit_value (get_or ds i 0) → next ≡ digits_value 10 (take (i + 1) ds)
next_number number next ds i lt e f = omega (arith, digits_value_more 10 ds i lt)

-- the digits so far make no more than all of them
pub next_number-le : (number : ℕ) (ds : List ℕ) (i : ℕ) → i < length ds → number ≡ digits_value 10 (take i ds)
    → number * 10 + digit_value (get_or ds i 0) ≤ digits_value 10 ds
next_number-le number ds i lt e = omega (
  arith,
  digits_value_more 10 ds i lt,
  digits_value-take-le 10 ds (i + 1)
      (omega arith),
)

-- what a counted worth says

ok_by_test : (b : Bool) (m n : ℕ) → nat_lt m (2 ^ 128) ≡ b
    → ◌≡◌ {A = Result ℕ WorthRefusal} (Ok n) (if b then Ok m else Err TooLarge) → (m < 2 ^ 128) × (n ≡ m)
ok_by_test true m n test e = (grind (arith, nat_tests), cc)
ok_by_test false m n test e = absurd cc

pub counted_ok : (o : Option ℕ) (n : ℕ) → Ok n ≡ counted o → (unwrap_or o 0 < 2 ^ 128) × (n ≡ unwrap_or o 0)
unfolding counted
counted_ok None n e = absurd cc
counted_ok (Some m) n e = ok_by_test (nat_lt m (2 ^ 128)) m n refl e

none_by_test : (b : Bool) (m : ℕ) → ◌≡◌ {A = Result ℕ WorthRefusal} (Err NoWorth) (if b then Ok m else Err TooLarge) → ⊥
none_by_test true m e = absurd cc
none_by_test false m e = absurd cc

pub counted_none : (o : Option ℕ) → Err NoWorth ≡ counted o → (unwrap_or o 0 < 2 ^ 128) × (0 ≡ unwrap_or o 0)
unfolding counted
counted_none None e = (omega arith, refl)
counted_none (Some m) e = absurd (none_by_test (nat_lt m (2 ^ 128)) m e)

large_by_test : (b : Bool) (m : ℕ) → nat_lt m (2 ^ 128) ≡ b
    → ◌≡◌ {A = Result ℕ WorthRefusal} (Err TooLarge) (if b then Ok m else Err TooLarge) → m < 2 ^ 128 → ⊥
large_by_test true m test e fits = absurd cc
large_by_test false m test e fits = let not : 2 ^ 128 ≤ m = grind (arith, nat_tests) in omega arith

pub counted_large : (o : Option ℕ) → Err TooLarge ≡ counted o → unwrap_or o 0 < 2 ^ 128 → ⊥
unfolding counted
counted_large None e fits = absurd cc
counted_large (Some m) e fits = large_by_test (nat_lt m (2 ^ 128)) m refl e fits
