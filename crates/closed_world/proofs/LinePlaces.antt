-- The element at one place is another: what is known of each place is known of each again.
use Rattle.std.proofs.Common.{◌≡◌, ◌≢◌, ℕ, zero, suc, ◌<◌, List, [], ◌∷◌, ◌++◌, length, get_or, slice_set, Option, Some}
use Rattle.std.proofs.Common.{refl, sym, subst, arith}
use Rattle.std.specs.Prelude.{slice_get}

-- where there is an element, the place is within
pub place-within : {A : Type 0} (xs : List A) (i : ℕ) (x : A) → slice_get xs i ≡ Some x → i < length xs
place-within [] i x e = absurd (cc)
place-within (y ∷ ys) zero x e = omega arith
place-within (y ∷ ys) (suc i) x e = let below = place-within ys i x e in omega arith

-- of the place itself
pub at-place : {A : Type 0} (P : ℕ → A → Type 0) (xs : List A) (p : ℕ) (d : A) → d ≡ get_or xs p d → p < length xs
    → ((i : ℕ) (x : A) → slice_get xs i ≡ Some x → P i x) → P p d
at-place {A = A} P xs p d is inside all = subst (P p) (sym is) (there P xs p inside all)
  where
    there : (P : ℕ → A → Type 0) (xs : List A) (p : ℕ) → p < length xs
        → ((i : ℕ) (x : A) → slice_get xs i ≡ Some x → P i x) → P p (get_or xs p d)
    there P [] p inside all = absurd (omega (arith, inside))
    there P (z ∷ zs) zero inside all = all 0 z refl
    there P (z ∷ zs) (suc p) inside all = there (λ j. P (suc j)) zs p (omega (arith, inside)) (λ j. all (suc j))

-- one more element at the end
pub each-pushed : {A : Type 0} (P : A → Type 0) (xs : List A) (y : A)
    → ((i : ℕ) (x : A) → slice_get xs i ≡ Some x → P x) → P y
    → (i : ℕ) (x : A) → slice_get (xs ++ y ∷ []) i ≡ Some x → P x
each-pushed P [] y all own zero x e = let same : y ≡ x = cc in subst P same own
each-pushed P [] y all own (suc i) x e = absurd (cc)
each-pushed P (z ∷ zs) y all own zero x e = all 0 x e
each-pushed P (z ∷ zs) y all own (suc i) x e = each-pushed P zs y (λ j w f. all (suc j) w f) own i x e

pub each-set : {A : Type 0} (P Q : ℕ → A → Type 0) (xs : List A) (p : ℕ) (y d : A) → p < length xs
    → ((i : ℕ) (x : A) → slice_get xs i ≡ Some x → P i x)
    → (P p (get_or xs p d) → Q p y)
    → ((i : ℕ) (x : A) → i ≢ p → P i x → Q i x)
    → (i : ℕ) (x : A) → slice_get (slice_set xs p y) i ≡ Some x → Q i x
each-set P Q [] p y d inside all there other i x e = absurd (omega (arith, inside))
each-set {A = A} P Q (z ∷ zs) zero y d inside all there other zero x e = let same : y ≡ x = cc in
    subst (Q 0) same (there (all 0 z refl))
each-set P Q (z ∷ zs) zero y d inside all there other (suc i) x e =
    other (suc i) x (λ f. omega (arith, f)) (all (suc i) x e)
each-set P Q (z ∷ zs) (suc p) y d inside all there other zero x e = other zero x (λ f. omega (arith, f)) (all zero x e)
each-set P Q (z ∷ zs) (suc p) y d inside all there other (suc i) x e =
    each-set (λ j. P (suc j)) (λ j. Q (suc j)) zs p y d (omega (arith, inside)) (λ j. all (suc j)) there
    (λ j w ne. other (suc j) w (λ f. ne (omega (arith, f)))) i x e
