-- The worth of a text, from its parts.
use Rattle.std.proofs.Common.{◌≡◌, ℕ, ◌+◌, ◌-◌, ◌*◌, ◌^◌, ◌<◌, ◌≤◌, Bool, true, false, List, [], ◌++◌, length, min}
use Rattle.std.proofs.Common.{take, drop, refl, sym, ap, ◌∙◌, subst, arith, inl, inr}
use Rattle.std.proofs.lemmas.Bool.Decides.{nat_tests}
use Rattle.std.proofs.lemmas.Bool.{false≢true, and_parts, cases_lt}
use Rattle.std.proofs.lemmas.List.{take-append-drop, length-take-le, drop_all}
use Rattle.std.proofs.lemmas.List.Folds.{list_all-append}
use Rattle.std.specs.Prelude.{◌==◌, nat_lt, Option, None, Some, SomeIff, Ok, Err}
use Rattle.std.specs.List.{list_all}
use Rattle.fixed_point.specs.declared.worth.WorthRefusal.{WorthRefusal}
use Rattle.fixed_point.specs.declared.worth.WorthRefusal.TheVariants.{NoWorth, TooLarge}
use Rattle.std.specs.Char.{is_ascii_digit}
use Rattle.wire_bytes.specs.Digits.{number_of}
use Rattle.fixed_point.specs.Decimal.{are_digits, scaled, fraction_of, fraction, is_negative, without_sign, whole}
use Rattle.fixed_point.specs.Decimal.{behind, not_below_zero, worth_of, worth}
use Rattle.fixed_point.specs.Worth.{counted}
use Rattle.fixed_point.proofs.Sizes.{scaled_exact, scaled_inexact}

-- a number that an integer holds, or doesn't

some_is : (units : Option ℕ) (m n : ℕ) → units ≡ Some m → SomeIff units (n < 2 ^ 128) n → (n < 2 ^ 128) × (m ≡ n)
some_is units m n e h = let P : Option ℕ → Type 0 = λ x. SomeIff x (n < 2 ^ 128) n in subst P e h

none_is : (units : Option ℕ) (n : ℕ) → units ≡ None → SomeIff units (n < 2 ^ 128) n → ¬ (n < 2 ^ 128)
none_is units n e h = let P : Option ℕ → Type 0 = λ x. SomeIff x (n < 2 ^ 128) n in subst P e h

below_zero : (n : ℕ) → 0 < n → Err NoWorth ≡ counted (not_below_zero true (Some n))
unfolding counted
below_zero n some =
    let test : nat_lt 0 n ≡ true = grind (arith, nat_tests) in
    rw test refl

above_all : (n : ℕ) → 2 ^ 128 ≤ n → Err TooLarge ≡ counted (not_below_zero false (Some n))
unfolding counted
above_all n large =
    let test : nat_lt n (2 ^ 128) ≡ false = grind (arith, nat_tests) in
    rw test refl

held : (n : ℕ) → n < 2 ^ 128 → Ok n ≡ counted (not_below_zero false (Some n))
unfolding counted
held n fits =
    let test : nat_lt n (2 ^ 128) ≡ true = grind (arith, nat_tests) in
    rw test refl

-- a number with its sign

pub zero_or_above : (negative : Bool) (units : Option ℕ) (m n : ℕ) → units ≡ Some m → SomeIff units (n < 2 ^ 128) n
    → (negative ≡ true → m ≡ 0) → Ok m ≡ counted (not_below_zero negative (Some n))
unfolding counted
zero_or_above false units m n e h zero = let h = some_is units m n e h in ap Ok h.1 ∙ held n h.0
zero_or_above true units m n e h zero =
    let is = some_is units m n e h in
    let nothing : n ≡ 0 = omega (arith, is.1, zero refl) in
    rw (nothing, zero refl) refl

pub negative_is : (negative : Bool) (units : Option ℕ) (m n : ℕ) → units ≡ Some m → SomeIff units (n < 2 ^ 128) n
    → negative ≡ true → 0 < m → Err NoWorth ≡ counted (not_below_zero negative (Some n))
negative_is negative units m n e h sign some =
    let is = some_is units m n e h in
    rw sign (below_zero n (omega (arith, is.1)))

pub large_is : (negative : Bool) (refusal : WorthRefusal) (units : Option ℕ) (n : ℕ) → units ≡ None
    → SomeIff units (n < 2 ^ 128) n → (negative ≡ true → refusal ≡ NoWorth) → (negative ≡ false → refusal ≡ TooLarge)
    → Err refusal ≡ counted (not_below_zero negative (Some n))
large_is false refusal units n e h below above = rw (above refl) (above_all n (omega (arith, none_is units n e h)))
large_is true refusal units n e h below above = rw (below refl) (below_zero n (omega (arith, none_is units n e h)))

-- a text and its parts

abbrev of_parts : Bool → List ℕ → List ℕ → Option ℕ
of_parts negative front back = worth_of (fraction_of negative front back)

pub worth_by_parts : (text rest front back : List ℕ) (negative : Bool) → negative ≡ is_negative text
    → rest ≡ without_sign text → front ≡ whole rest → back ≡ behind rest → worth text ≡ of_parts negative front back
unfolding worth fraction
worth_by_parts text rest front back negative n r f b = rw (f, b, r, n) refl

pub no_float : (negative : Bool) (front back : List ℕ) → are_digits (front ++ back) ≡ false
    → Err NoWorth ≡ counted (of_parts negative front back)
unfolding counted worth_of
no_float negative front back h = rw h refl

far_digits : (front back near far : List ℕ) → near ++ far ≡ back → are_digits (front ++ back) ≡ true
    → list_all is_ascii_digit far ≡ true
far_digits front back near far joined h =
    let all = (and_parts (nat_lt 0 (length (front ++ back))) (list_all is_ascii_digit (front ++ back)) h).1 in
    let cut = (and_parts (list_all is_ascii_digit front) (list_all is_ascii_digit back)
    (sym (list_all-append is_ascii_digit front back) ∙ all)).1 in
    (and_parts (list_all is_ascii_digit near) (list_all is_ascii_digit far)
    (sym (list_all-append is_ascii_digit near far) ∙ ap (list_all is_ascii_digit) joined ∙ cut)).1

worth_none : (negative : Bool) (front back : List ℕ) → are_digits (front ++ back) ≡ true
    → scaled 10_000 (record { negative = negative; digits = number_of (front ++ back); places = length back }) ≡ None
    → Err NoWorth ≡ counted (of_parts negative front back)
unfolding counted worth_of
worth_none negative front back digits e = rw (digits, e) refl

worth_some : (negative : Bool) (n : ℕ) (front back : List ℕ) → are_digits (front ++ back) ≡ true
    → scaled 10_000 (record { negative = negative; digits = number_of (front ++ back); places = length back }) ≡ Some n
    → of_parts negative front back ≡ not_below_zero negative (Some n)
unfolding worth_of
worth_some negative n front back digits e = rw (digits, e) refl

-- finer than 1/10,000
pub too_fine : (negative : Bool) (front back near far : List ℕ) (kept : ℕ)
    → are_digits (front ++ back) ≡ true
    → kept ≡ min (length back) 4 → near ≡ take kept back → far ≡ drop kept back
    → list_all (λ d. d == 48) far ≡ false
    → Err NoWorth ≡ counted (of_parts negative front back)
too_fine negative front back near far kept digits k a b some =
    elim (cases_lt kept (length back)) [
      | inl short ↦
          let joined : near ++ far ≡ back = rw (a, b) (take-append-drop kept back) in
          let len : length near ≡ 4 = ap (λ (t : List ℕ). length t) a ∙ length-take-le kept back (omega arith)
          ∙ omega arith in
          let e = scaled_inexact negative front near far (far_digits front back near far joined digits) some in
          let f = subst (λ n. scaled (10 ^ n) (record
          { negative = negative; digits = number_of (front ++ (near ++ far)); places = length (near ++ far) })
          ≡ None) len e in
          let g = subst (λ (t : List ℕ). scaled 10_000
          (record { negative = negative; digits = number_of (front ++ t); places = length t }) ≡ None) joined f in
          worth_none negative front back digits g
      | inr all ↦
          let none : far ≡ [] = b ∙ drop_all kept back all in
          absurd (false≢true (sym some ∙ ap (list_all (λ d. d == 48)) none))
    ]

-- so many 1/10,000
pub worth_exact : (negative : Bool) (front back near far : List ℕ) (kept : ℕ)
    → are_digits (front ++ back) ≡ true
    → kept ≡ min (length back) 4 → near ≡ take kept back → far ≡ drop kept back
    → list_all (λ d. d == 48) far ≡ true
    → of_parts negative front back ≡ not_below_zero negative
    (Some ((number_of front * 10 ^ length near + number_of near) * 10 ^ (4 - length near)))
worth_exact negative front back near far kept digits k a b zeros =
    let joined : near ++ far ≡ back = rw (a, b) (take-append-drop kept back) in
    let len : length near ≡ kept = ap (λ (t : List ℕ). length t) a ∙ length-take-le kept back (omega arith) in
    let sum : length near + (4 - length near) ≡ 4 = omega arith in
    let exact = (number_of front * 10 ^ length near + number_of near) * 10 ^ (4 - length near) in
    let e = scaled_exact negative front near far (4 - length near) 4 sum zeros in
    let f = subst (λ (t : List ℕ). scaled 10_000
    (record { negative = negative; digits = number_of (front ++ t); places = length t }) ≡ Some exact) joined e in
    worth_some negative exact front back digits f
