-- Texts that no SOH stands in.
use Rattle.std.proofs.Common.{◌≡◌, Bool, true, false, ℕ, ◌+◌, ◌/◌, ◌%◌, ◌^◌, ◌<◌, ◌≤◌, zero, suc, List, [], ◌∷◌, ◌++◌}
use Rattle.std.proofs.Common.{take, refl, ◌∙◌, arith, decimal}
use Rattle.std.specs.Prelude.{◌==◌, if◌then◌else◌}
use Rattle.std.specs.List.{list_all}
use Rattle.std.proofs.lemmas.Bool.Decides.{nat_tests}
use Rattle.std.proofs.lemmas.Fmt.{decimal_by_steps_wide}
use Rattle.std.proofs.lemmas.List.Folds.{list_all-append}
use Rattle.fix_fields.specs.Field.{is_inside}
use Rattle.fix_fields.proofs.Tags.{and_parts}
use Rattle.fixed_point.specs.Price.{four_digits, significant, fraction_text}

pub inside-append : (xs ys : List ℕ) → list_all is_inside xs ≡ true → list_all is_inside ys ≡ true
    → list_all is_inside (xs ++ ys) ≡ true
inside-append xs ys h i = list_all-append is_inside xs ys ∙ rw (h, i) refl

inside_digit : (n : ℕ) → is_inside (48 + n) ≡ true
inside_digit n = grind (arith, nat_tests)

inside-four_digits : (n : ℕ) → list_all is_inside (four_digits n) ≡ true
inside-four_digits n = rw (
  inside_digit (n / 1000),
  inside_digit (n / 100 % 10),
  inside_digit
      (n / 10 % 10),
  inside_digit (n % 10),
) refl

inside-take : (k : ℕ) (xs : List ℕ) → list_all is_inside xs ≡ true → list_all is_inside (take k xs) ≡ true
inside-take zero xs h = refl
inside-take (suc k) [] h = refl
inside-take (suc k) (x ∷ xs) h =
    let p = and_parts (is_inside x) (list_all is_inside xs) h in
    rw (p.0, inside-take k xs p.1) refl

pub inside-fraction_text : (n : ℕ) → list_all is_inside (fraction_text n) ≡ true
inside-fraction_text n = by_test (n == 0)
  where
    by_test : (test : Bool) → list_all is_inside (if test then [] else (46 ∷ take (significant n) (four_digits n)))
        ≡ true
    by_test true = refl
    by_test false = inside-take (significant n) (four_digits n) (inside-four_digits n)

-- no number in decimal has one
pub inside-decimal : (n : ℕ) → n < 10 ^ 64 → list_all is_inside (decimal n) ≡ true
inside-decimal n h = decimal_by_steps_wide (λ n ds. list_all is_inside ds ≡ true) one more n h
  where
    one : (n : ℕ) → n < 10 → list_all is_inside ((48 + n) ∷ []) ≡ true
    one n h = rw (inside_digit n) refl

    more : (n : ℕ) (ds : List ℕ) → 10 ≤ n → list_all is_inside ds ≡ true
        → list_all is_inside (ds ++ ((48 + n % 10) ∷ [])) ≡ true
    more n ds h front = inside-append ds ((48 + n % 10) ∷ []) front (rw (inside_digit (n % 10)) refl)
