-- Numbers as values.
use Rattle.std.proofs.Common.{◌≡◌, true, ℕ, ◌+◌, ◌/◌, ◌%◌, ◌^◌, ◌<◌, ◌≤◌, List, [], ◌∷◌, length, refl, arith, decimal}
use Rattle.std.specs.Char.{is_ascii_digit}
use Rattle.std.specs.List.{list_all}
use Rattle.std.proofs.lemmas.Bool.Decides.{nat_tests}
use Rattle.std.proofs.lemmas.Fmt.{digits_decimal, length-decimal-le, decimal_digit, decimal_step}
use Rattle.wire_bytes.proofs.Numbers.{own}
use Rattle.fix_fields.specs.Field.{is_inside}
use Rattle.fix_fields.proofs.Tags.{and_parts}

inside_digit : (d : ℕ) → is_ascii_digit d ≡ true → is_inside d ≡ true
inside_digit d h = grind (arith, nat_tests)

inside-digits : (ds : List ℕ) → list_all is_ascii_digit ds ≡ true → list_all is_inside ds ≡ true
inside-digits [] h = refl
inside-digits (d ∷ ds) h =
    let p = and_parts (is_ascii_digit d) (list_all is_ascii_digit ds) h in
    rw (inside_digit d p.0, inside-digits ds p.1) refl

-- no digit ends a field
pub inside-decimal : (n : ℕ) → n < 2 ^ 64 → list_all is_inside (decimal n) ≡ true
inside-decimal n h = inside-digits (decimal n) (digits_decimal own n h)

-- a tag has at most nine digits
pub length-tag : (tag : ℕ) → 1 ≤ tag → tag ≤ 999_999_999 → length (decimal tag) ≤ 9
length-tag tag low high = length-decimal-le 9 tag (omega arith) (omega arith) (omega arith)

-- one digit, two and three
pub one_digit : (n : ℕ) → n < 10 → decimal n ≡ (48 + n % 10) ∷ []
one_digit n small = let d : n % 10 ≡ n = omega arith in rw d (decimal_digit n small)

pub two_digits : (n : ℕ) → 10 ≤ n → n < 100 → decimal n ≡ (48 + n / 10 % 10) ∷ (48 + n % 10) ∷ []
two_digits n large small = rw (decimal_step n large (omega arith), one_digit (n / 10) (omega arith)) refl

pub three_digits : (n : ℕ) → 100 ≤ n → n < 1000
    → decimal n ≡ (48 + n / 100 % 10) ∷ (48 + n / 10 % 10) ∷ (48 + n % 10) ∷ []
three_digits n large small =
    let d : n / 10 / 10 ≡ n / 100 = omega arith in
    rw (decimal_step n (omega arith) (omega arith), two_digits (n / 10) (omega arith) (omega arith), d) refl

-- four, five and six
pub four_digits : (n : ℕ) → 1000 ≤ n → n < 10_000
    → decimal n ≡ (48 + n / 1000 % 10) ∷ (48 + n / 100 % 10) ∷ (48 + n / 10 % 10) ∷ (48 + n % 10) ∷ []
four_digits n large small =
    let c : n / 10 / 10 ≡ n / 100 = omega arith in
    let d : n / 10 / 100 ≡ n / 1000 = omega arith in
    rw (decimal_step n (omega arith) (omega arith), three_digits (n / 10) (omega arith) (omega arith), c, d) refl

pub five_digits : (n : ℕ) → 10_000 ≤ n → n < 100_000
    → decimal n ≡ (48 + n / 10_000 % 10) ∷ (48 + n / 1000 % 10) ∷ (48 + n / 100 % 10) ∷ (48 + n / 10 % 10) ∷
    (48 + n % 10) ∷ []
five_digits n large small =
    let b : n / 10 / 10 ≡ n / 100 = omega arith in
    let c : n / 10 / 100 ≡ n / 1000 = omega arith in
    let d : n / 10 / 1000 ≡ n / 10_000 = omega arith in
    rw (decimal_step n (omega arith) (omega arith), four_digits (n / 10) (omega arith) (omega arith), b, c, d) refl

pub six_digits : (n : ℕ) → 100_000 ≤ n → n < 1_000_000
    → decimal n ≡ (48 + n / 100_000 % 10) ∷ (48 + n / 10_000 % 10) ∷ (48 + n / 1000 % 10) ∷ (48 + n / 100 % 10) ∷
    (48 + n / 10 % 10) ∷ (48 + n % 10) ∷ []
six_digits n large small =
    let a : n / 10 / 10 ≡ n / 100 = omega arith in
    let b : n / 10 / 100 ≡ n / 1000 = omega arith in
    let c : n / 10 / 1000 ≡ n / 10_000 = omega arith in
    let d : n / 10 / 10_000 ≡ n / 100_000 = omega arith in
    rw (decimal_step n (omega arith) (omega arith), five_digits (n / 10) (omega arith) (omega arith), a, b, c, d) refl
