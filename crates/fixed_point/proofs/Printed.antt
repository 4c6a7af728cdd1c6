-- The text of a number denotes it.
use Rattle.std.proofs.Common.{◌≡◌, ◌≢◌, ℕ, zero, suc, ◌+◌, ◌-◌, ◌*◌, ◌/◌, ◌%◌, ◌^◌, ◌<◌, ◌≤◌, Bool, true, false, List}
use Rattle.std.proofs.Common.{[], ◌∷◌, ◌++◌, length, get_or, take, refl, sym, ap, ◌∙◌, subst, arith, length-append}
use Rattle.std.proofs.Math.ListN.{get_or-append}
use Rattle.std.proofs.Math.Seq.{take-append_seam, drop-append-add, get_or-append_seam}
use Rattle.std.proofs.lemmas.Nat.{pow-add}
use Rattle.std.proofs.lemmas.List.{append-nil}
use Rattle.std.proofs.lemmas.List.Folds.{list_all-append}
use Rattle.std.proofs.lemmas.Bool.Decides.{nat_tests}
use Rattle.std.proofs.lemmas.Fmt.{decimal_by_steps_wide}
use Rattle.std.specs.Prelude.{◌==◌, nat_lt, if◌then◌else◌, decimal, Some}
use Rattle.std.specs.List.{list_all}
use Rattle.std.specs.Char.{is_ascii_digit}
use Rattle.wire_bytes.specs.Digits.{number_of}
use Rattle.fixed_point.specs.Decimal.{is_negative, without_sign, whole, behind, are_digits, fraction, fraction_of}
use Rattle.fixed_point.specs.Decimal.{scaled, worth, worth_of}
use Rattle.fixed_point.specs.Price.{four_digits, significant, price_text}
use Rattle.wire_bytes.proofs.Numbers.{number_of-push}
use Rattle.fixed_point.proofs.Numbers.{first_digit, other_digits}
use Rattle.fixed_point.proofs.Points.{whole_before, behind_after, whole_of_all, behind_none}
use Rattle.fixed_point.proofs.Sizes.{scaled_exact}

-- digits, one at least, that make a number
record Spells (n : ℕ) (ds : List ℕ) : Type 0 where
  digits : list_all is_ascii_digit ds ≡ true
  number : number_of ds ≡ n
  some : 0 < length ds

ascii_digit_of : (d : ℕ) → d < 10 → is_ascii_digit (48 + d) ≡ true
ascii_digit_of d lt = grind (arith, nat_tests)

one_digit : (n : ℕ) → n < 10 → Spells n ((48 + n) ∷ [])
one_digit n lt = record { digits = rw (ascii_digit_of n lt) refl; number = omega arith; some = omega arith }

one_more_digit : (n : ℕ) (ds : List ℕ) → 10 ≤ n → Spells (n / 10) ds → Spells n (ds ++ ((48 + n % 10) ∷ []))
one_more_digit n ds le front = record {
  digits = list_all-append is_ascii_digit ds ((48 + n % 10) ∷ [])
      ∙ rw (front.digits, ascii_digit_of (n % 10) (omega arith)) refl;
  number = number_of-push ds (48 + n % 10) ∙ rw front.number (omega arith);
  some = omega (arith, length-append ds ((48 + n % 10) ∷ []));
}

decimal_spells : (n : ℕ) → n < 10 ^ 64 → Spells n (decimal n)
decimal_spells n lt = decimal_by_steps_wide Spells one_digit one_more_digit n lt

-- the digits of a fraction, in 1/10,000
record SpellsFraction (n : ℕ) (ds : List ℕ) : Type 0 where
  digits : list_all is_ascii_digit ds ≡ true
  short : length ds ≤ 4
  number : number_of ds * 10 ^ (4 - length ds) ≡ n

no_fraction : SpellsFraction 0 []
no_fraction = record { digits = refl; short = omega arith; number = refl }

test_holds : (n : ℕ) → (n == 0) ≡ true → n ≡ 0
test_holds n h = grind (arith, nat_tests)

one_place : (n : ℕ) → n < 10_000 → n % 1000 ≡ 0 → SpellsFraction n (take 1 (four_digits n))
one_place n lt e = record {
  digits = rw (ascii_digit_of (n / 1000) (omega arith)) refl;
  short = omega arith;
  number = omega arith;
}

two_places : (n : ℕ) → n < 10_000 → n % 100 ≡ 0 → SpellsFraction n (take 2 (four_digits n))
two_places n lt e = record {
  digits = rw (ascii_digit_of (n / 1000) (omega arith), ascii_digit_of (n / 100 % 10) (omega arith)) refl;
  short = omega arith;
  number = omega arith;
}

three_places : (n : ℕ) → n < 10_000 → n % 10 ≡ 0 → SpellsFraction n (take 3 (four_digits n))
three_places n lt e = record {
  digits = rw (
    ascii_digit_of (n / 1000) (omega arith),
    ascii_digit_of (n / 100 % 10) (omega arith),
    ascii_digit_of
        (n / 10 % 10) (omega arith),
  ) refl;
  short = omega arith;
  number = omega arith;
}

four_places : (n : ℕ) → n < 10_000 → SpellsFraction n (take 4 (four_digits n))
four_places n lt = record {
  digits = rw (
    ascii_digit_of (n / 1000) (omega arith),
    ascii_digit_of (n / 100 % 10) (omega arith),
    ascii_digit_of
        (n / 10 % 10) (omega arith),
    ascii_digit_of (n % 10) (omega arith),
  ) refl;
  short = omega arith;
  number = omega arith;
}

significant_digits : (n : ℕ) → n < 10_000 → SpellsFraction n (take (significant n) (four_digits n))
significant_digits n lt = by_tests (n % 1000 == 0) (n % 100 == 0) (n % 10 == 0) refl refl refl
  where
    by_tests : (a b c : Bool) → (n % 1000 == 0) ≡ a → (n % 100 == 0) ≡ b → (n % 10 == 0) ≡ c
        → SpellsFraction n (take (if a then 1 else (if b then 2 else (if c then 3 else 4))) (four_digits n))
    by_tests true b c p q r = one_place n lt (test_holds (n % 1000) p)
    by_tests false true c p q r = two_places n lt (test_holds (n % 100) q)
    by_tests false false true p q r = three_places n lt (test_holds (n % 10) r)
    by_tests false false false p q r = four_places n lt

-- a text that begins with a digit has no sign

no_sign : (ds rest : List ℕ) → list_all is_ascii_digit ds ≡ true → 0 < length ds → is_negative (ds ++ rest) ≡ false
no_sign [] rest h some = absurd (omega arith)
no_sign (d ∷ ds) rest h some = let range = first_digit d ds h in grind (arith, nat_tests)

all_unsigned : (ds rest : List ℕ) → list_all is_ascii_digit ds ≡ true → 0 < length ds
    → without_sign (ds ++ rest) ≡ ds ++ rest
all_unsigned [] rest h some = absurd (omega arith)
all_unsigned (d ∷ ds) rest h some =
    let range = first_digit d ds h in
    let test : (d == 45) ≡ false = grind (arith, nat_tests) in
    rw test refl

no_point_in : (ds : List ℕ) (k : ℕ) → list_all is_ascii_digit ds ≡ true → k < length ds → get_or ds k 0 ≢ 46
no_point_in [] k h lt = absurd (omega arith)
no_point_in (d ∷ ds) zero h lt = let range = first_digit d ds h in omega arith
no_point_in (d ∷ ds) (suc k) h lt = no_point_in ds k (other_digits d ds h) (omega arith)

some_digits : (ds fs : List ℕ) → list_all is_ascii_digit ds ≡ true → list_all is_ascii_digit fs ≡ true → 0 < length ds
    → are_digits (ds ++ fs) ≡ true
some_digits ds fs h k some =
    let all : list_all is_ascii_digit (ds ++ fs) ≡ true = list_all-append is_ascii_digit ds fs ∙ rw (h, k) refl in
    let more : 0 < length (ds ++ fs) = omega (arith, length-append ds fs) in
    let test : nat_lt 0 (length (ds ++ fs)) ≡ true = grind (arith, nat_tests) in
    rw (test, all) refl

-- the fraction of digits before and behind the point is worth the number
worth_of_digits : (m n : ℕ) (ds fs : List ℕ) → Spells m ds → SpellsFraction n fs
    → worth_of (fraction_of false ds fs) ≡ Some (m * 10_000 + n)
unfolding worth_of
worth_of_digits m n ds fs front back =
    let exact = scaled_exact false ds fs [] (4 - length fs) 4 (short_sum (length fs) back.short) refl in
    let same = subst (λ (t : List ℕ). scaled 10_000
    (record { negative = false; digits = number_of (ds ++ t); places = length t })
    ≡ Some ((number_of ds * 10 ^ length fs + number_of fs) * 10 ^ (4 - length fs))) (append-nil fs) exact in
    let number : (number_of ds * 10 ^ length fs + number_of fs) * 10 ^ (4 - length fs) ≡ m * 10_000 + n =
    joined (number_of ds) m (10 ^ length fs) (number_of fs) (10 ^ (4 - length fs)) n front.number back.number
    (sym (pow-add 10 (length fs) (4 - length fs)) ∙ ap (λ k. 10 ^ k) (short_sum (length fs) back.short)) in
    let test : are_digits (ds ++ fs) ≡ true = some_digits ds fs front.digits back.digits front.some in
    rw (test, same, number) refl
  where
    short_sum : (k : ℕ) → k ≤ 4 → k + (4 - k) ≡ 4
    short_sum k le = omega arith

    joined : (v m a f b n : ℕ) → v ≡ m → f * b ≡ n → a * b ≡ 10_000 → (v * a + f) * b ≡ m * 10_000 + n
    joined v m a f b n e g h =
        let spread : (v * a + f) * b ≡ v * (a * b) + f * b = omega arith in
        spread ∙ rw (e, g, h) refl

worth_of_parts : (text ds fs : List ℕ) → is_negative text ≡ false → without_sign text ≡ text → whole text ≡ ds
    → behind text ≡ fs → worth text ≡ worth_of (fraction_of false ds fs)
unfolding worth fraction
worth_of_parts text ds fs n r w b = rw (n, r, w, b) refl

worth_with_point : (m n : ℕ) (ds fs : List ℕ) → Spells m ds → SpellsFraction n fs
    → worth (ds ++ 46 ∷ fs) ≡ Some (m * 10_000 + n)
worth_with_point m n ds fs front back =
    let text = ds ++ 46 ∷ fs in
    let le : length ds ≤ length text = omega (arith, length-append ds (46 ∷ fs)) in
    let before : (k : ℕ) → k < length ds → get_or text k 0 ≢ 46 =
    λ k lt. rw (get_or-append ds (46 ∷ fs) 0 k lt) (no_point_in ds k front.digits lt) in
    let here : length ds < length text → get_or text (length ds) 0 ≡ 46 = λ lt. get_or-append_seam ds 46 fs 0 in
    worth_of_parts text ds fs (no_sign ds (46 ∷ fs) front.digits front.some)
    (all_unsigned ds (46 ∷ fs) front.digits front.some)
    (sym (whole_before text (length ds) le before here) ∙ take-append_seam ds (46 ∷ fs))
    (sym (behind_after text (length ds) le before here) ∙ drop-append-add ds (46 ∷ fs) 1)
    ∙ worth_of_digits m n ds fs front back

worth_with_no_point : (m : ℕ) (ds : List ℕ) → Spells m ds → worth (ds ++ []) ≡ Some (m * 10_000 + 0)
worth_with_no_point m ds front =
    let none : (k : ℕ) → k < length ds → get_or ds k 0 ≢ 46 = λ k lt. no_point_in ds k front.digits lt in
    let sign : is_negative ds ≡ false = subst (λ (t : List ℕ). is_negative t ≡ false) (append-nil ds)
    (no_sign ds [] front.digits front.some) in
    let rest : without_sign ds ≡ ds = subst (λ (t : List ℕ). without_sign t ≡ t) (append-nil ds)
    (all_unsigned ds [] front.digits front.some) in
    ap worth (append-nil ds)
    ∙ worth_of_parts ds ds [] sign rest (sym (whole_of_all ds (length ds) (omega arith) (omega arith) none))
    (behind_none ds (length ds) (omega arith) (omega arith) none)
    ∙ worth_of_digits m 0 ds [] front no_fraction

worth_by_test : (m r : ℕ) (ds : List ℕ) (test : Bool) → r < 10_000 → (r == 0) ≡ test → Spells m ds
    → worth (ds ++ (if test then [] else (46 ∷ take (significant r) (four_digits r)))) ≡ Some (m * 10_000 + r)
worth_by_test m r ds true lt e front = worth_with_no_point m ds front ∙ rw (test_holds r e) refl
worth_by_test m r ds false lt e front = worth_with_point m r ds (take (significant r) (four_digits r)) front
    (significant_digits r lt)

-- the text of a number is worth it
pub worth_of_price_text : (n : ℕ) → n < 2 ^ 128 → worth (price_text n) ≡ Some n
unfolding price_text
worth_of_price_text n lt =
    let front = decimal_spells (n / 10_000) (omega arith) in
    worth_by_test (n / 10_000) (n % 10_000) (decimal (n / 10_000)) (n % 10_000 == 0) (omega arith) refl front
    ∙ ap Some (omega arith)
