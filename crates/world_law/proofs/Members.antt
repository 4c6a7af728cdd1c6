-- Members of lists.
use Rattle.std.proofs.Common.{◌≡◌, Bool, true, false, List, [], ◌∷◌, ◌++◌, filter, refl, subst, ◌⊎◌, inl, inr, ⊎_elim}
use Rattle.std.specs.Prelude.{if◌then◌else◌}
use Rattle.order_law.specs.Headline.{Each}
use Rattle.world_law.specs.Asked.{IsIn}

pub in-left : {A : Type 0} (a : A) (xs ys : List A) → IsIn a xs → IsIn a (xs ++ ys)
in-left a [] ys e = absurd e
in-left a (x ∷ xs) ys e = ⊎_elim (λ h. inl h) (λ h. inr (in-left a xs ys h)) e

pub in-right : {A : Type 0} (a : A) (xs ys : List A) → IsIn a ys → IsIn a (xs ++ ys)
in-right a [] ys e = e
in-right a (x ∷ xs) ys e = inr (in-right a xs ys e)

pub in-parts : {A : Type 0} (a : A) (xs ys : List A) → IsIn a (xs ++ ys) → IsIn a xs ⊎ IsIn a ys
in-parts a [] ys e = inr e
in-parts a (x ∷ xs) ys e = ⊎_elim (λ h. inl (inl h))
    (λ h. ⊎_elim (λ k. inl (inr k)) (λ k. inr k) (in-parts a xs ys h)) e

pub each-in : {A : Type 0} (P : A → Type 0) (a : A) (xs : List A) → Each P xs → IsIn a xs → P a
each-in P a [] e i = absurd i
each-in P a (x ∷ xs) e i = ⊎_elim (λ h. subst P h e.0) (λ h. each-in P a xs e.1 h) i

not-both : (b : Bool) → b ≡ true → b ≡ false → ⊥
not-both true e f = cc
not-both false e f = cc

-- a member that passes is left by a filter
pub in-filter : {A : Type 0} (p : A → Bool) (a : A) (xs : List A) → p a ≡ true → IsIn a xs → IsIn a (filter p xs)
in-filter p a [] e i = absurd i
in-filter {A = A} p a (x ∷ xs) e i = by_test (p x) refl i (λ k. in-filter p a xs e k)
  where
    by_test : (b : Bool) → p x ≡ b → IsIn a (x ∷ xs) → (IsIn a xs → IsIn a (filter p xs))
        → IsIn a (if b then x ∷ filter p xs else filter p xs)
    by_test true f i later = ⊎_elim (λ h. inl h) (λ h. inr (later h)) i
    by_test false f i later = ⊎_elim (λ h. absurd (not-both (p a) e (subst (λ y. p y ≡ false) h f))) later i

-- what a filter leaves was there
pub in-filtered : {A : Type 0} (p : A → Bool) (a : A) (xs : List A) → IsIn a (filter p xs) → IsIn a xs
in-filtered p a [] i = i
in-filtered {A = A} p a (x ∷ xs) i = by_test (p x) i (λ k. in-filtered p a xs k)
  where
    by_test : (b : Bool) → IsIn a (if b then x ∷ filter p xs else filter p xs) → (IsIn a (filter p xs) → IsIn a xs)
        → IsIn a (x ∷ xs)
    by_test true i later = ⊎_elim (λ h. inl h) (λ k. inr (later k)) i
    by_test false i later = inr (later i)

-- and passes
pub filter-passed : {A : Type 0} (p : A → Bool) (a : A) (xs : List A) → IsIn a (filter p xs) → p a ≡ true
filter-passed p a [] i = absurd i
filter-passed {A = A} p a (x ∷ xs) i = by_test (p x) refl i (λ k. filter-passed p a xs k)
  where
    by_test : (b : Bool) → p x ≡ b → IsIn a (if b then x ∷ filter p xs else filter p xs)
        → (IsIn a (filter p xs) → p a ≡ true) → p a ≡ true
    by_test true f i later = ⊎_elim (λ h. subst (λ y. p y ≡ true) h f) later i
    by_test false f i later = later i
