-- The last digits of a number.
use Rattle.std.proofs.Common.{◌≡◌, ℕ, zero, suc, ◌+◌, ◌-◌, ◌*◌, ◌/◌, ◌%◌, ◌^◌, ◌<◌, ◌≤◌, List, [], ◌∷◌, ◌++◌, length}
use Rattle.std.proofs.Common.{get_or, set, take, drop, refl, sym, ap, ◌∙◌, subst, arith, append_assoc, add-one}
use Rattle.std.specs.Prelude.{Bool, true}
use Rattle.std.specs.Char.{is_ascii_digit}
use Rattle.std.specs.List.{list_all}
use Rattle.std.proofs.lemmas.Bool.Decides.{nat_tests}
use Rattle.std.proofs.Math.Nat.{pow-suc}
use Rattle.std.proofs.lemmas.List.{drop_more, drop-set, length_push, same_from_push, take_all, take_more}
use Rattle.std.proofs.lemmas.List.Folds.{list_all-append}
use Rattle.std.proofs.lemmas.Str.Parse.{digit_at}
use Rattle.wire_bytes.specs.Digits.{number_of, AreDigitsBelow}
use Rattle.wire_bytes.proofs.Numbers.{own, number_of_more, number_of_short}
use Rattle.wire_law.specs.Printable.{is_printable}
use Rattle.tokens.specs.TokenText.{last_digits, token_text}

pub last_digits-step : (k n : ℕ) → last_digits (k + 1) n ≡ last_digits k (n / 10) ++ (48 + n % 10) ∷ []
unfolding last_digits
last_digits-step k n = rw add-one refl

pub length-last_digits : (k n : ℕ) → length (last_digits k n) ≡ k
unfolding last_digits
length-last_digits zero n = refl
length-last_digits (suc k) n = omega (
  arith,
  length_push (last_digits k (n / 10)) (48 + n % 10),
  length-last_digits k
      (n / 10),
)

-- one more digit at the end
pub last_digits_more : (k n d : ℕ) → d < 10 → last_digits (k + 1) (10 * n + d) ≡ last_digits k n ++ (48 + d) ∷ []
last_digits_more k n d lt =
    let q : (10 * n + d) / 10 ≡ n = omega arith in
    let r : (10 * n + d) % 10 ≡ d = omega arith in
    last_digits-step k (10 * n + d) ∙ ap (λ x. last_digits k x ++ (48 + (10 * n + d) % 10) ∷ []) q
    ∙ ap (λ x. last_digits k n ++ (48 + x) ∷ []) r

pub same_number : (k m n : ℕ) → m < 10 ^ k → n < 10 ^ k → last_digits k m ≡ last_digits k n → m ≡ n
unfolding last_digits
same_number zero m n hm hn e = omega arith
same_number (suc k) m n hm hn e =
    let p = same_from_push (last_digits k (m / 10)) (last_digits k (n / 10)) (48 + m % 10) (48 + n % 10) e in
    let q : m / 10 ≡ n / 10 = same_number k (m / 10) (n / 10) (omega (arith, pow-suc 10 k))
    (omega (arith, pow-suc 10 k)) p.0 in
    omega (arith, p.1, q)

-- digits are the last of their number
spelled : (k : ℕ) (ds : List ℕ) → k ≤ length ds → list_all is_ascii_digit ds ≡ true
    → take k ds ≡ last_digits k (number_of (take k ds))
unfolding last_digits
spelled zero ds le digits = refl
spelled (suc k) ds le digits =
    let digit = digit_at ds k (own.to ds digits) (omega arith) in
    let m = number_of (take k ds) in
    let d = get_or ds k 0 - 48 in
    let more : take (k + 1) ds ≡ last_digits (k + 1) (number_of (take (k + 1) ds)) =
    take_more ds k 0 (omega arith)
    ∙ ap (λ (t : List ℕ). t ++ get_or ds k 0 ∷ []) (spelled k ds (omega arith) digits)
    ∙ ap (λ (x : ℕ). last_digits k m ++ x ∷ []) (omega arith)
    ∙ sym (last_digits_more k m d (omega arith))
    ∙ ap (λ (n : ℕ). last_digits (k + 1) n) (sym (number_of_more ds k (omega arith))) in
    subst (λ (n : ℕ). take n ds ≡ last_digits n (number_of (take n ds))) (add-one k) more

pub spelled_all : (ds : List ℕ) → length ds ≡ 13 → list_all is_ascii_digit ds ≡ true
    → ds ≡ last_digits 13 (number_of ds)
spelled_all ds len digits =
    let all : take 13 ds ≡ ds = take_all 13 ds (omega arith) in
    sym all ∙ spelled 13 ds (omega arith) digits ∙ ap (λ (t : List ℕ). last_digits 13 (number_of t)) all

-- each of them is a digit
all-last_digits : (p : ℕ → Bool) → ((d : ℕ) → d < 10 → p (48 + d) ≡ true) → (k n : ℕ)
    → list_all p (last_digits k n) ≡ true
unfolding last_digits
all-last_digits p each zero n = refl
all-last_digits p each (suc k) n =
    list_all-append p (last_digits k (n / 10)) ((48 + n % 10) ∷ [])
    ∙ rw (all-last_digits p each k (n / 10), each (n % 10) (omega arith)) refl

all_digits : (n : ℕ) → list_all is_ascii_digit (last_digits 13 n) ≡ true
all_digits n = all-last_digits is_ascii_digit (λ d lt. grind (arith, nat_tests)) 13 n

-- no number has other bytes
pub no_digits : (ds : List ℕ) → (AreDigitsBelow (2 ^ 64) ds → ⊥) → (n : ℕ) → ds ≡ last_digits 13 n → ⊥
no_digits ds none n e =
    let small = number_of_short (last_digits 13 n) 13 (all_digits n) (omega (arith, length-last_digits 13 n)) in
    none (rw e (all_digits n), rw e (omega (arith, small)))

-- the digits behind the `G`
pub digits_behind : (bytes : List ℕ) (n : ℕ) → bytes ≡ token_text n → drop 1 bytes ≡ last_digits 13 n
digits_behind bytes n e = ap (λ (bs : List ℕ). drop 1 bs) e

-- no other number has these digits
pub token_number : (bytes : List ℕ) (m n : ℕ) → m ≤ 9_999_999_999_999 → n ≤ 9_999_999_999_999
    → drop 1 bytes ≡ last_digits 13 m → bytes ≡ token_text n → m ≡ n
token_number bytes m n hm hn d e = same_number 13 m n (omega arith) (omega arith) (sym d ∙ digits_behind bytes n e)

pub text_from : (bytes : List ℕ) (n : ℕ) → length bytes ≡ 14 → get_or bytes 0 0 ≡ 71 → drop 1 bytes ≡ last_digits 13 n
    → bytes ≡ token_text n
text_from bytes n len first d = drop_more bytes 0 0 (omega arith) ∙ ap (λ b. b ∷ drop 1 bytes) first
    ∙ ap (λ (t : List ℕ). 71 ∷ t) d

-- the next digit from the right
pub digit_before : (i n : ℕ) (bytes : List ℕ) → i < 13 → length bytes ≡ 14
    → last_digits (13 - (i + 1)) (n / 10) ++ drop (14 - (i + 1)) (set bytes (13 - i) (48 + n % 10))
    ≡ last_digits (13 - i) n ++ drop (14 - i) bytes
digit_before i n bytes lt len =
    let at : 14 - (i + 1) ≡ 13 - i = omega arith in
    let after : 13 - i + 1 ≡ 14 - i = omega arith in
    let more : 13 - i ≡ 13 - (i + 1) + 1 = omega arith in
    rw (at, drop-set bytes (13 - i) (48 + n % 10) (omega arith), after, more, last_digits-step (13 - (i + 1)) n)
    (sym (append_assoc (last_digits (13 - (i + 1)) (n / 10)) ((48 + n % 10) ∷ []) (drop (14 - i) bytes)))

pub printable-token : (bytes : List ℕ) (n : ℕ) → bytes ≡ token_text n → list_all is_printable bytes ≡ true
printable-token bytes n e = rw e (all-last_digits is_printable (λ d lt. grind (arith, nat_tests)) 13 n)
