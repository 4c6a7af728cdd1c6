-- What is found in a list that another one is made of.
use Rattle.std.proofs.Common.{◌≡◌, suc, ◌+◌, Bool, true, false, List, [], ◌∷◌, length, map, refl, ap, ◌∙◌, arith, Some}
use Rattle.std.specs.Prelude.{◌&&◌, if◌then◌else◌, filter, option_map}
use Rattle.std.specs.List.{count_by, find}
use Rattle.order_law.specs.Headline.{Each}
use Rattle.order_machine.proofs.Executed.{count-more}

pub and-turned : (a b : Bool) → (a && b) ≡ (b && a)
and-turned true true = refl
and-turned true false = refl
and-turned false true = refl
and-turned false false = refl

-- among those that pass one test, the first that passes another
pub find-filter : {A : Type 0} (p q : A → Bool) (xs : List A) → find p (filter q xs) ≡ find (λ x. q x && p x) xs
find-filter p q [] = refl
find-filter {A = A} p q (x ∷ xs) = by_test (q x) (find-filter p q xs)
  where
    by_test : (b : Bool) → find p (filter q xs) ≡ find (λ y. q y && p y) xs
        → find p (if b then x ∷ filter q xs else filter q xs) ≡ (if b && p x then Some x else find (λ y. q y && p y) xs)
    by_test true e = by_found (p x) e
      where
        by_found : (c : Bool) → find p (filter q xs) ≡ find (λ y. q y && p y) xs
            → (if c then Some x else find p (filter q xs)) ≡ (if c then Some x else find (λ y. q y && p y) xs)
        by_found true e = refl
        by_found false e = e
    by_test false e = e

pub find-same : {A : Type 0} (p q : A → Bool) (xs : List A) → ((x : A) → p x ≡ q x) → find p xs ≡ find q xs
find-same p q [] same = refl
find-same p q (x ∷ xs) same = rw (same x, find-same p q xs same) refl

-- what is found among images is the image of what is found
pub find-map : {A B : Type 0} (f : A → B) (p : B → Bool) (xs : List A)
    → find p (map f xs) ≡ option_map f (find (λ x. p (f x)) xs)
find-map f p [] = refl
find-map {A = A} {B = B} f p (x ∷ xs) = by_test (p (f x)) (find-map f p xs)
  where
    by_test : (b : Bool) → find p (map f xs) ≡ option_map f (find (λ y. p (f y)) xs)
        → (if b then Some (f x) else find p (map f xs)) ≡ option_map f (if b then Some x else find (λ y. p (f y)) xs)
    by_test true e = refl
    by_test false e = e

-- tests that agree on the members find the same
pub find-each : {A : Type 0} (P : A → Type 0) (p q : A → Bool) (xs : List A) → ((x : A) → P x → p x ≡ q x) → Each P xs
    → find p xs ≡ find q xs
find-each P p q [] same each = refl
find-each P p q (x ∷ xs) same each = rw (same x each.0, find-each P p q xs same each.1) refl

pub count-each : {A : Type 0} (P : A → Type 0) (p q : A → Bool) (xs : List A) → ((x : A) → P x → p x ≡ q x) → Each P xs
    → length (filter p xs) ≡ count_by q xs
count-each P p q [] same each = refl
count-each {A = A} P p q (x ∷ xs) same each = rw (same x each.0) (by_test (q x) (count-each P p q xs same each.1) ∙ one)
  where
    one : (if q x then 1 else 0) + count_by q xs ≡ count_by q (x ∷ xs)
    one = let e = count-more q x xs in omega (arith, e)

    by_test : (b : Bool) → length (filter p xs) ≡ count_by q xs
        → length (if b then x ∷ filter p xs else filter p xs) ≡ (if b then 1 else 0) + count_by q xs
    by_test true e = omega (arith, e)
    by_test false e = omega (arith, e)

pub length-map : {A B : Type 0} (f : A → B) (xs : List A) → length (map f xs) ≡ length xs
length-map f [] = refl
length-map f (x ∷ xs) = ap suc (length-map f xs)

pub map-filter : {A B : Type 0} (f : A → B) (p : B → Bool) (xs : List A)
    → filter p (map f xs) ≡ map f (filter (λ x. p (f x)) xs)
map-filter f p [] = refl
map-filter {A = A} {B = B} f p (x ∷ xs) = by_test (p (f x)) (map-filter f p xs)
  where
    by_test : (b : Bool) → filter p (map f xs) ≡ map f (filter (λ y. p (f y)) xs)
        → (if b then f x ∷ filter p (map f xs) else filter p (map f xs))
        ≡ map f (if b then x ∷ filter (λ y. p (f y)) xs else filter (λ y. p (f y)) xs)
    by_test true e = ap (λ ys. f x ∷ ys) e
    by_test false e = e

pub map-map : {A B C : Type 0} (f : A → B) (g : B → C) (xs : List A) → map g (map f xs) ≡ map (λ x. g (f x)) xs
map-map f g [] = refl
map-map f g (x ∷ xs) = ap (λ ys. g (f x) ∷ ys) (map-map f g xs)

-- a member of what is found
pub Each-found : {A : Type 0} (P : A → Type 0) (p : A → Bool) (xs : List A) (x : A) → Each P xs → find p xs ≡ Some x
    → P x
Each-found P p [] x each e = absurd (cc)
Each-found {A = A} P p (y ∷ ys) x each e = by_test (p y) e (λ f. Each-found P p ys x each.1 f)
  where
    by_test : (b : Bool) → (if b then Some y else find p ys) ≡ Some x → (find p ys ≡ Some x → P x) → P x
    by_test true e later = let same : y ≡ x = cc in rw (sym_of same) each.0
      where
        sym_of : y ≡ x → x ≡ y
        sym_of e = cc
    by_test false e later = later e
