-- How many 1 / 10 ^ places a fraction is, from the digits that are kept and those behind them.
use Rattle.std.proofs.Common.{◌≡◌, ℕ, ◌+◌, ◌-◌, ◌*◌, ◌^◌, ◌<◌, ◌≤◌, Bool, true, false, List, [], ◌∷◌, ◌++◌, length}
use Rattle.std.proofs.Common.{take, drop, refl, sym, ap, ◌∙◌, subst, arith, min, inl, inr}
use Rattle.std.proofs.Math.Nat.{mul-le-mul_left, mul-le-mul_right, mul-mod_left, mul-div_cancel}
use Rattle.std.proofs.lemmas.Nat.{pow-add, mod-mul-add}
use Rattle.std.proofs.lemmas.List.{take-append-drop, length-take-le, drop_all}
use Rattle.std.proofs.lemmas.List.Folds.{list_all-append}
use Rattle.std.proofs.lemmas.Bool.{false≢true, cases_lt}
use Rattle.std.proofs.lemmas.Bool.Decides.{nat_tests}
use Rattle.std.specs.Prelude.{◌==◌, ◌&&◌, nat_lt, if◌then◌else◌, Option, None, Some, Ok, Err}
use Rattle.std.specs.List.{list_all}
use Rattle.fixed_point.specs.declared.refusal.DecimalRefusal.TheVariants.{NotFloat, NotExact}
use Rattle.std.specs.Char.{is_ascii_digit}
use Rattle.wire_bytes.specs.Digits.{number_of}
use Rattle.fixed_point.specs.Decimal.{Fraction, are_digits, scaled, fraction_of}
use Rattle.fixed_point.specs.Steps.{capped, read_on, scaled_size}
use Rattle.wire_bytes.proofs.Numbers.{power-append, number_of-append, power_of_ten-pos}
use Rattle.fixed_point.proofs.Numbers.{number_of-lt, zeros_number, number_of-pos}

-- a fraction that is n whole
pub scaled_whole : (scale n : ℕ) (f : Fraction) → scale * f.digits ≡ n * 10 ^ f.places → scaled scale f ≡ Some n
unfolding scaled
scaled_whole scale n f e =
    let pos : 0 < 10 ^ f.places = omega (arith, power_of_ten-pos f.places) in
    rw (e, mul-mod_left n (10 ^ f.places)) (ap Some (mul-div_cancel n pos))

-- a fraction between two whole numbers
pub scaled_between : (scale n rest : ℕ) (f : Fraction) → scale * f.digits ≡ n * 10 ^ f.places + rest → 1 ≤ rest
    → rest < 10 ^ f.places → scaled scale f ≡ None
unfolding scaled
scaled_between scale n rest f e some below =
    let test : (rest == 0) ≡ false = grind (arith, nat_tests) in
    rw (e, mod-mul-add n (10 ^ f.places) rest below, test) refl

-- the digits of a fraction, cut behind those that are kept
number_of_cut : (whole near far : List ℕ)
    → number_of (whole ++ (near ++ far)) ≡ (number_of whole * 10 ^ length near + number_of near) * 10 ^ length far +
    number_of far
number_of_cut whole near far =
    joined (number_of (whole ++ (near ++ far))) (number_of whole) (10 ^ length (near ++ far)) (number_of (near ++ far))
    (10 ^ length near) (10 ^ length far) (number_of near) (number_of far)
    (number_of-append whole (near ++ far)) (power-append near far) (number_of-append near far)
  where
    joined : (total w r u a b v f : ℕ) → total ≡ w * r + u → r ≡ a * b → u ≡ v * b + f → total ≡ (w * a + v) * b + f
    joined total w r u a b v f e h k = rw (e, h, k) (omega arith)

abbrev cut : Bool → List ℕ → List ℕ → List ℕ → Fraction
cut negative whole near far = record {
  negative = negative;
  digits = number_of (whole ++ (near ++ far));
  places =
      length (near ++ far);
}

-- only zeros stand behind the digits that are kept
pub scaled_exact : (negative : Bool) (whole near far : List ℕ) (k places : ℕ) → length near + k ≡ places
    → list_all (λ d. d == 48) far ≡ true → scaled (10 ^ places) (cut negative whole near far)
    ≡ Some ((number_of whole * 10 ^ length near + number_of near) * 10 ^ k)
scaled_exact negative whole near far k places e zeros =
    scaled_whole (10 ^ places) ((number_of whole * 10 ^ length near + number_of near) * 10 ^ k)
    (cut negative whole near far)
    (exact (10 ^ places) (number_of (whole ++ (near ++ far))) (number_of whole * 10 ^ length near + number_of near)
    (10 ^ k) (10 ^ length (near ++ far)) (10 ^ length near) (10 ^ length far)
    (ap (λ n. 10 ^ n) (sym e) ∙ pow-add 10 (length near) k)
    (number_of_cut whole near far ∙ ap (λ x. (number_of whole * 10 ^ length near + number_of near) * 10 ^ length far +
    x) (zeros_number far zeros))
    (power-append near far))
  where
    exact : (s t v q r a b : ℕ) → s ≡ a * q → t ≡ v * b + 0 → r ≡ a * b → s * t ≡ (v * q) * r
    exact s t v q r a b e f g = rw (e, f, g) (omega arith)

-- more stands behind as many digits as there are places
pub scaled_inexact : (negative : Bool) (whole near far : List ℕ) → list_all is_ascii_digit far ≡ true
    → list_all (λ d. d == 48) far ≡ false → scaled (10 ^ length near) (cut negative whole near far) ≡ None
scaled_inexact negative whole near far digits some =
    let a = 10 ^ length near in
    let b = 10 ^ length far in
    let pos : 1 ≤ a = power_of_ten-pos (length near) in
    let low = number_of-pos far digits some in
    let high = number_of-lt far digits in
    scaled_between a (number_of whole * a + number_of near) (a * number_of far) (cut negative whole near far)
    (inexact a (number_of (whole ++ (near ++ far))) (number_of whole * a + number_of near) (10 ^ length (near ++ far)) b
    (number_of far) (number_of_cut whole near far) (power-append near far))
    (least a (number_of far) pos low)
    (below (10 ^ length (near ++ far)) a b (number_of far) pos high (power-append near far))
  where
    inexact : (a t v r b f : ℕ) → t ≡ v * b + f → r ≡ a * b → a * t ≡ v * r + a * f
    inexact a t v r b f e g = rw (e, g) (omega arith)

    least : (a f : ℕ) → 1 ≤ a → 1 ≤ f → 1 ≤ a * f
    least a f pos low = omega (arith, mul-le-mul_left a low)

    below : (r a b f : ℕ) → 1 ≤ a → f < b → r ≡ a * b → a * f < r
    below r a b f pos high e =
        let next : f + 1 ≤ b = omega arith in
        omega (arith, mul-le-mul_left a next)

and_left : (a b : Bool) → a ≡ false → (a && b) ≡ false
and_left a b h = rw h refl

and_right : (a b : Bool) → b ≡ false → (a && b) ≡ false
and_right true b h = h
and_right false b h = refl

-- no float, for one reason or another

no_digits : (whole behind : List ℕ) → length whole ≡ 0 → length behind ≡ 0 → are_digits (whole ++ behind) ≡ false
no_digits [] [] e f = refl
no_digits [] (d ∷ behind) e f = absurd (omega arith)
no_digits (d ∷ whole) behind e f = absurd (omega arith)

pub not_float : (scale : ℕ) (whole behind : List ℕ) → list_all is_ascii_digit (whole ++ behind) ≡ false
    → Err NotFloat ≡ scaled_size scale (fraction_of false whole behind)
unfolding scaled_size
not_float scale whole behind h =
    rw (and_right (nat_lt 0 (length (whole ++ behind))) (list_all is_ascii_digit (whole ++ behind)) h) refl

pub not_float_empty : (scale : ℕ) (whole behind : List ℕ) → length whole ≡ 0 → length behind ≡ 0
    → Err NotFloat ≡ scaled_size scale (fraction_of false whole behind)
unfolding scaled_size
not_float_empty scale whole behind e f = rw (no_digits whole behind e f) refl

pub not_float_whole : (scale : ℕ) (whole behind : List ℕ) → list_all is_ascii_digit whole ≡ false
    → Err NotFloat ≡ scaled_size scale (fraction_of false whole behind)
not_float_whole scale whole behind h =
    not_float scale whole behind (list_all-append is_ascii_digit whole behind
    ∙ and_left (list_all is_ascii_digit whole) (list_all is_ascii_digit behind) h)

not_float_behind : (scale : ℕ) (whole behind : List ℕ) → list_all is_ascii_digit behind ≡ false
    → Err NotFloat ≡ scaled_size scale (fraction_of false whole behind)
not_float_behind scale whole behind h =
    not_float scale whole behind (list_all-append is_ascii_digit whole behind
    ∙ and_right (list_all is_ascii_digit whole) (list_all is_ascii_digit behind) h)

digits_of_cut : (kept : ℕ) (behind : List ℕ)
    → list_all is_ascii_digit behind ≡ (list_all is_ascii_digit (take kept behind)
    && list_all is_ascii_digit (drop kept behind))
digits_of_cut kept behind =
    ap (list_all is_ascii_digit) (sym (take-append-drop kept behind))
    ∙ list_all-append is_ascii_digit (take kept behind) (drop kept behind)

pub not_float_near : (scale kept : ℕ) (whole behind near : List ℕ) → near ≡ take kept behind
    → list_all is_ascii_digit near ≡ false → Err NotFloat ≡ scaled_size scale (fraction_of false whole behind)
not_float_near scale kept whole behind near e h =
    not_float_behind scale whole behind
    (digits_of_cut kept behind ∙ and_left (list_all is_ascii_digit (take kept behind))
    (list_all is_ascii_digit (drop kept behind)) (ap (list_all is_ascii_digit) (sym e) ∙ h))

pub not_float_far : (scale kept : ℕ) (whole behind far : List ℕ) → far ≡ drop kept behind
    → list_all is_ascii_digit far ≡ false → Err NotFloat ≡ scaled_size scale (fraction_of false whole behind)
not_float_far scale kept whole behind far e h =
    not_float_behind scale whole behind
    (digits_of_cut kept behind ∙ and_right (list_all is_ascii_digit (take kept behind))
    (list_all is_ascii_digit (drop kept behind)) (ap (list_all is_ascii_digit) (sym e) ∙ h))

-- what reading digits found

if_none : (b : Bool) (n : ℕ) → ◌≡◌ {A = Option ℕ} None (if b then Some n else None) → b ≡ false
if_none true n e = absurd cc
if_none false n e = refl

if_some : (b : Bool) (n m : ℕ) → ◌≡◌ {A = Option ℕ} (Some m) (if b then Some n else None) → (b ≡ true) × (m ≡ n)
if_some true n m e = (refl, cc)
if_some false n m e = absurd cc

pub read_none : (start : ℕ) (ds : List ℕ) → None ≡ read_on start ds → list_all is_ascii_digit ds ≡ false
unfolding read_on
read_none start ds e = if_none (list_all is_ascii_digit ds) (capped (start * 10 ^ length ds + number_of ds)) e

pub read_some : (start n : ℕ) (ds : List ℕ) → Some n ≡ read_on start ds
    → (list_all is_ascii_digit ds ≡ true) × (n ≡ capped (start * 10 ^ length ds + number_of ds))
unfolding read_on
read_some start n ds e = if_some (list_all is_ascii_digit ds) (capped (start * 10 ^ length ds + number_of ds)) n e

-- a number that stops at a limit, times a power, stops where the exact one does

capped_push : (limit w a x : ℕ) → 1 ≤ a → min (min w limit * a + x) limit ≡ min (w * a + x) limit
capped_push limit w a x pos =
    elim (cases_lt limit w) [
      | inl high ↦
          let stops : min w limit ≡ limit = omega arith in
          let le : limit ≤ w = omega arith in
          rw stops (omega (arith, mul-le-mul_left limit pos, mul-le-mul_right a le))
      | inr low ↦ let same : min w limit ≡ w = omega arith in rw same refl
    ]

capped_shift : (limit w a : ℕ) → 1 ≤ a → min (min w limit * a) limit ≡ min (w * a) limit
capped_shift limit w a pos =
    elim (cases_lt limit w) [
      | inl high ↦
          let stops : min w limit ≡ limit = omega arith in
          let le : limit ≤ w = omega arith in
          rw stops (omega (arith, mul-le-mul_left limit pos, mul-le-mul_right a le))
      | inr low ↦ let same : min w limit ≡ w = omega arith in rw same refl
    ]

capped_twice : (limit w p a v q start number : ℕ) → 1 ≤ a → 1 ≤ q → start ≡ min (0 * p + w) limit
    → number ≡ min (start * a + v) limit → min (number * q) limit ≡ min ((w * a + v) * q) limit
capped_twice limit w p a v q start number one_a one_q s n =
    let first : start ≡ min w limit = omega arith in
    let second : number ≡ min (w * a + v) limit = n ∙ rw first (capped_push limit w a v one_a) in
    rw second (capped_shift limit (w * a + v) q one_q)

pub product_fits : (n power : ℕ) → n ≤ 100_000_000_000 → power ≤ 10_000 → n * power < 2 ^ 64
product_fits n power small le = omega (arith, mul-le-mul_left n le)

size_some : (scale n : ℕ) (whole behind : List ℕ) → are_digits (whole ++ behind) ≡ true
    → scaled scale (record { negative = false; digits = number_of (whole ++ behind); places = length behind }) ≡ Some n
    → scaled_size scale (fraction_of false whole behind) ≡ Ok (capped n)
unfolding scaled_size
size_some scale n whole behind digits e = rw (digits, e) refl

size_none : (scale : ℕ) (whole behind : List ℕ) → are_digits (whole ++ behind) ≡ true
    → scaled scale (record { negative = false; digits = number_of (whole ++ behind); places = length behind }) ≡ None
    → scaled_size scale (fraction_of false whole behind) ≡ Err NotExact
unfolding scaled_size
size_none scale whole behind digits e = rw (digits, e) refl

-- digits before and behind the point, one at least
pub all_are_digits : (whole behind near far : List ℕ) (kept : ℕ) → near ≡ take kept behind → far ≡ drop kept behind
    → list_all is_ascii_digit whole ≡ true → list_all is_ascii_digit near ≡ true → list_all is_ascii_digit far ≡ true
    → (length whole ≡ 0 → length behind ≡ 0 → ⊥) → are_digits (whole ++ behind) ≡ true
all_are_digits whole behind near far kept a b w n f some =
    let both : list_all is_ascii_digit behind ≡ true = digits_of_cut kept behind ∙ rw (← a, ← b, n, f) refl in
    let all : list_all is_ascii_digit (whole ++ behind) ≡ true = list_all-append is_ascii_digit whole behind
    ∙ rw (w, both) refl in
    rw (is_some whole behind some, all) refl
  where
    is_some : (xs ys : List ℕ) → (length xs ≡ 0 → length ys ≡ 0 → ⊥) → nat_lt 0 (length (xs ++ ys)) ≡ true
    is_some [] [] h = absurd (h refl refl)
    is_some [] (y ∷ ys) h = grind (arith, nat_tests)
    is_some (x ∷ xs) ys h = grind (arith, nat_tests)

-- a float whose fraction is whole
pub size_exact : (whole behind near far : List ℕ) (start number result kept places : ℕ)
    → are_digits (whole ++ behind) ≡ true
    → kept ≡ min (length behind) places → near ≡ take kept behind → far ≡ drop kept behind
    → start ≡ capped (0 * 10 ^ length whole + number_of whole)
    → number ≡ capped (start * 10 ^ length near + number_of near)
    → list_all (λ d. d == 48) far ≡ true
    → result ≡ capped (number * 10 ^ (places - length near))
    → Ok result ≡ scaled_size (10 ^ places) (fraction_of false whole behind)
size_exact whole behind near far start number result kept places digits k a b s n zeros r =
    let joined : near ++ far ≡ behind = rw (a, b) (take-append-drop kept behind) in
    let len : length near ≡ kept = ap (λ (t : List ℕ). length t) a ∙ length-take-le kept behind (omega arith) in
    let sum : length near + (places - length near) ≡ places = omega arith in
    let exact = (number_of whole * 10 ^ length near + number_of near) * 10 ^ (places - length near) in
    let e = scaled_exact false whole near far (places - length near) places sum zeros in
    let f = subst (λ (t : List ℕ). scaled (10 ^ places)
    (record { negative = false; digits = number_of (whole ++ t); places = length t }) ≡ Some exact) joined e in
    ap Ok (r ∙ capped_twice 100_000_000_000 (number_of whole) (10 ^ length whole) (10 ^ length near) (number_of near)
    (10 ^ (places - length near)) start number (power_of_ten-pos (length near))
    (power_of_ten-pos (places - length near)) s n)
    ∙ sym (size_some (10 ^ places) exact whole behind digits f)

-- a float with digits that aren't 0 behind the places
pub size_inexact : (whole behind near far : List ℕ) (kept places : ℕ)
    → are_digits (whole ++ behind) ≡ true
    → kept ≡ min (length behind) places → near ≡ take kept behind → far ≡ drop kept behind
    → list_all is_ascii_digit far ≡ true → list_all (λ d. d == 48) far ≡ false
    → Err NotExact ≡ scaled_size (10 ^ places) (fraction_of false whole behind)
size_inexact whole behind near far kept places digits k a b digits_far some =
    elim (cases_lt kept (length behind)) [
      | inl short ↦
          let joined : near ++ far ≡ behind = rw (a, b) (take-append-drop kept behind) in
          let len : length near ≡ places = ap (λ (t : List ℕ). length t) a ∙ length-take-le kept behind (omega arith)
          ∙ omega arith in
          let e = scaled_inexact false whole near far digits_far some in
          let f = subst (λ n. scaled (10 ^ n) (record
          { negative = false; digits = number_of (whole ++ (near ++ far)); places = length (near ++ far) }) ≡ None)
          len e in
          let g = subst (λ (t : List ℕ). scaled (10 ^ places)
          (record { negative = false; digits = number_of (whole ++ t); places = length t }) ≡ None) joined f in
          sym (size_none (10 ^ places) whole behind digits g)
      | inr all ↦
          let none : far ≡ [] = b ∙ drop_all kept behind all in
          let zeros : list_all (λ d. d == 48) far ≡ true = ap (list_all (λ d. d == 48)) none in
          absurd (false≢true (sym some ∙ zeros))
    ]
