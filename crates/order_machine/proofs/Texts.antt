-- Numbers as texts, and texts that are compared.
use Rattle.std.proofs.Common.{◌≡◌, ◌≢◌, ℕ, ◌<◌, ◌≤◌, ◌^◌, Bool, true, false, List, refl, sym, ap, ◌∙◌, decimal}
use Rattle.std.proofs.Common.{bytes_eq}
use Rattle.std.proofs.lemmas.Fmt.{decimal_is_IsNumeral_wide}
use Rattle.std.proofs.lemmas.Slice.Eq.{bytes_eq-Decides}
use Rattle.std.specs.Prelude.{◌&&◌, ◌||◌}
use Rattle.std.specs.Str.Parse.{digits_value}
use Rattle.tokens.specs.TokenText.{token_text}
use Rattle.tokens.proofs.Digits.{token_number, digits_behind}

-- numbers in reports are far below this, whatever an order comes to
pub number-decimal : (n : ℕ) → n < 10 ^ 64 → digits_value 10 (decimal n) ≡ n
number-decimal n small = (decimal_is_IsNumeral_wide n small).1

pub decimal-same : (m n : ℕ) → m < 10 ^ 64 → n < 10 ^ 64 → decimal m ≡ decimal n → m ≡ n
decimal-same m n m_small n_small e = sym (number-decimal m m_small)
    ∙ (ap (digits_value 10) e ∙ number-decimal n n_small)

pub eq-same : (xs : List ℕ) → bytes_eq xs xs ≡ true
eq-same xs = (bytes_eq-Decides xs xs).1 refl

pub eq-is : (xs ys : List ℕ) → bytes_eq xs ys ≡ true → xs ≡ ys
eq-is xs ys e = (bytes_eq-Decides xs ys).0 e

pub eq-true : (xs ys : List ℕ) → xs ≡ ys → bytes_eq xs ys ≡ true
eq-true xs ys e = (bytes_eq-Decides xs ys).1 e

pub eq-other : (xs ys : List ℕ) → xs ≢ ys → bytes_eq xs ys ≡ false
eq-other xs ys differ = by_test (bytes_eq xs ys) refl
  where
    by_test : (b : Bool) → bytes_eq xs ys ≡ b → bytes_eq xs ys ≡ false
    by_test true e = absurd (differ (eq-is xs ys e))
    by_test false e = e

pub eq-decimal_other : (m n : ℕ) → m ≢ n → m < 10 ^ 64 → n < 10 ^ 64 → bytes_eq (decimal m) (decimal n) ≡ false
eq-decimal_other m n differ m_small n_small =
    eq-other (decimal m) (decimal n) (λ e. differ (decimal-same m n m_small n_small e))

pub token-same : (m n : ℕ) → m ≤ 9_999_999_999_999 → n ≤ 9_999_999_999_999 → token_text m ≡ token_text n → m ≡ n
token-same m n m_short n_short e = token_number (token_text m) m n m_short n_short
    (digits_behind (token_text m) m refl) e

-- ---- tests

pub and-false : (a : Bool) → (a && false) ≡ false
and-false true = refl
and-false false = refl

pub and-parts : (a b : Bool) → (a && b) ≡ true → (a ≡ true) × (b ≡ true)
and-parts true b e = (refl, e)
and-parts false b e = absurd (cc)

pub or-true : (a : Bool) → (a || true) ≡ true
or-true true = refl
or-true false = refl

pub not-both : (b : Bool) → b ≡ true → b ≡ false → ⊥
not-both true e f = cc
not-both false e f = cc

-- texts that are compared are alike either way round
pub eq-turned : (xs ys : List ℕ) → bytes_eq xs ys ≡ false → bytes_eq ys xs ≡ false
eq-turned xs ys differ = eq-other ys xs (λ e. not-both (bytes_eq xs ys) (eq-true xs ys (sym e)) differ)
