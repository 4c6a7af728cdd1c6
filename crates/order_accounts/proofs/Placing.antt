-- Places by the numbers that digits write.
use Rattle.std.proofs.Common.{◌≡◌, ◌%◌, ◌^◌, ℕ, true, false, List, Option, Some, None, refl, ap, subst}
use Rattle.std.specs.Prelude.{SomeIff, nat_lt}
use Rattle.std.specs.Char.{is_ascii_digit}
use Rattle.std.specs.List.{list_all}
use Rattle.std.proofs.lemmas.Bool.{and_from, and_parts, false_from_ne_true, lt-ltb, ltb-true}
use Rattle.wire_bytes.specs.Digits.{AreDigitsBelow, number_of}
use Rattle.order_accounts.specs.Places.{are_short, place}

are-short : (digits : List ℕ) → AreDigitsBelow (2 ^ 64) digits → are_short digits ≡ true
are-short digits below = and_from (list_all is_ascii_digit digits) (nat_lt (number_of digits) (2 ^ 64)) below.0
    (lt-ltb (number_of digits) (2 ^ 64) below.1)

short-are : (digits : List ℕ) → are_short digits ≡ true → AreDigitsBelow (2 ^ 64) digits
short-are digits short =
    let parts = and_parts (list_all is_ascii_digit digits) (nat_lt (number_of digits) (2 ^ 64)) short in
    (parts.0, ltb-true (number_of digits) (2 ^ 64) parts.1)

pub placed : (count : ℕ) (digits : List ℕ) (found : Option ℕ) (n : ℕ)
    → SomeIff found (AreDigitsBelow (2 ^ 64) digits) (number_of digits) → found ≡ Some n
    → n % count ≡ place count digits
unfolding place
placed count digits found n is some =
    let said : SomeIff (Some n) (AreDigitsBelow (2 ^ 64) digits) (number_of digits) =
    subst (λ (x : Option ℕ). SomeIff x (AreDigitsBelow (2 ^ 64) digits) (number_of digits)) some is in
    rw (are-short digits said.0) (ap (λ (k : ℕ). k % count) said.1)

pub unplaced : (count : ℕ) (digits : List ℕ) (found : Option ℕ)
    → SomeIff found (AreDigitsBelow (2 ^ 64) digits) (number_of digits) → found ≡ None → 0 ≡ place count digits
unfolding place
unplaced count digits found is none =
    let said : SomeIff None (AreDigitsBelow (2 ^ 64) digits) (number_of digits) =
    subst (λ (x : Option ℕ). SomeIff x (AreDigitsBelow (2 ^ 64) digits) (number_of digits)) none is in
    let long : are_short digits ≡ false = false_from_ne_true (are_short digits) (λ short. said (short-are digits short))
    in
    rw long refl
