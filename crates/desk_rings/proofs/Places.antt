-- One element of a list changes.
use Rattle.std.proofs.Common.{◌≡◌, ◌≢◌, ℕ, zero, suc, ◌<◌, List, [], ◌∷◌, length, Some, slice_get, slice_set, get_or}
use Rattle.std.proofs.Common.{refl, ap, sym, ◌∙◌, subst, arith, inl, inr}
use Rattle.std.proofs.lemmas.Option.{slice_get-get_or}
use Rattle.std.proofs.lemmas.Bool.Decides.{eqb_tells}

pub get-set-same : {A : Type 0} (xs : List A) (i : ℕ) (y : A) → i < length xs → slice_get (slice_set xs i y) i ≡ Some y
get-set-same [] i y h = absurd (omega arith)
get-set-same (x ∷ xs) zero y h = refl
get-set-same (x ∷ xs) (suc i) y h = get-set-same xs i y (omega arith)

pub get-set-other : {A : Type 0} (xs : List A) (i k : ℕ) (y : A) → k ≢ i
    → slice_get (slice_set xs i y) k ≡ slice_get xs k
get-set-other [] i k y ne = refl
get-set-other (x ∷ xs) zero zero y ne = absurd (ne refl)
get-set-other (x ∷ xs) zero (suc k) y ne = refl
get-set-other (x ∷ xs) (suc i) zero y ne = refl
get-set-other (x ∷ xs) (suc i) (suc k) y ne = get-set-other xs i k y (λ e. ne (ap suc e))

pub length-set : {A : Type 0} (xs : List A) (i : ℕ) (y : A) → length (slice_set xs i y) ≡ length xs
length-set [] i y = refl
length-set (x ∷ xs) zero y = refl
length-set (x ∷ xs) (suc i) y = ap suc (length-set xs i y)

pub get-same : {A : Type 0} (xs : List A) (i : ℕ) (x y : A) → slice_get xs i ≡ Some x → slice_get xs i ≡ Some y → x ≡ y
get-same xs i x y p q = cc

pub get-inside : {A : Type 0} (xs : List A) (i : ℕ) → i < length xs → (x : A) × (slice_get xs i ≡ Some x)
get-inside [] i h = absurd (omega arith)
get-inside (x ∷ xs) zero h = (x, refl)
get-inside (x ∷ xs) (suc i) h = get-inside xs i (omega arith)

-- one element changed as P says, and each other one may be said to have too
pub each-set : {A : Type 0} (P : A → A → Type 0) (xs : List A) (i : ℕ) (x y : A) → i < length xs → ((z : A) → P z z)
    → P (get_or xs i x) y
    → (k : ℕ) (z : A) → slice_get xs k ≡ Some z → (v : A) × (slice_get (slice_set xs i y) k ≡ Some v) × P z v
each-set {A} P xs i x y h stays p k z at =
    elim (eqb_tells k i) [
      | inl e ↦ (
          let here : slice_get xs i ≡ Some z = rw (← e.1) at in
          let same : get_or xs i x ≡ z = get-same xs i (get_or xs i x) z (slice_get-get_or xs i x h) here in
          subst (λ (j : ℕ). (v : A) × (slice_get (slice_set xs i y) j ≡ Some v) × P z v) (sym e.1)
          (y, get-set-same xs i y h, subst (λ (w : A). P w y) same p)
          )
      | inr e ↦ (z, get-set-other xs i k y e.1 ∙ at, stays z)
    ]
