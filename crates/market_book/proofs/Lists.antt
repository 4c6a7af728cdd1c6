-- Loops over lists.
use Rattle.std.proofs.Common.{◌≡◌, ℕ, suc, ◌+◌, ◌<◌, Bool, true, false, List, [], ◌∷◌, ◌++◌, length, map, take, drop}
use Rattle.std.proofs.Common.{get_or, set, refl, ap, ◌∙◌, Some, None, arith, zero, sym}
use Rattle.std.proofs.Math.Seq.{split_at, take-suc}
use Rattle.std.proofs.lemmas.List.{get_or_default}
use Rattle.std.proofs.lemmas.List.Edits.{map_over_more}
use Rattle.std.proofs.lemmas.List.Folds.{find-append}
use Rattle.std.specs.List.{find, list_any}
use Rattle.market_book.specs.Places.{IsFirstAt}
use Rattle.std.specs.Prelude.{Result, Ok, Err, OnErr, is_some, ◌||◌, if◌then◌else◌}

-- a loop that changes each element
pub changed_more : {X : Type 0} (f : X → X) (xs ys : List X) (i : ℕ) (d : X) → i < length xs → i < length ys
    → ys ≡ map f (take i xs) ++ drop i xs → set ys i (f (get_or ys i d)) ≡ map f (take (i + 1) xs) ++ drop (i + 1) xs
changed_more f xs ys i d inside there so_far =
    map_over_more f xs ys i (get_or ys i d) inside so_far (get_or_default ys i d (get_or ys i d) there)

-- a test on what elements become
pub list_any_map : {X Y : Type 0} (p : Y → Bool) (f : X → Y) (xs : List X)
    → list_any p (map f xs) ≡ list_any (λ x. p (f x)) xs
list_any_map p f [] = refl
list_any_map p f (x ∷ xs) = rw (list_any_map p f xs) refl

-- the first that passes is the next one
first_is : {X : Type 0} (p : X → Bool) (x : X) (xs : List X) → p x ≡ true → find p (x ∷ xs) ≡ Some x
first_is p x xs here = rw here refl

-- a loop that looks for the first element that passes
pub found_here : {X : Type 0} (p : X → Bool) (xs : List X) (i : ℕ) (d : X) → i < length xs → find p (take i xs) ≡ None
    → p (get_or xs i d) ≡ true → find p xs ≡ Some (get_or xs i d)
found_here p xs i d inside none here =
    let parts = split_at xs i d inside in
    let joined = find-append p (take i xs) (get_or xs i d ∷ drop (suc i) xs) in
    let first = first_is p (get_or xs i d) (drop (suc i) xs) here in
    ap (find p) parts ∙ joined ∙ (rw (none, first) refl)

add_one : (i : ℕ) → i + 1 ≡ suc i
add_one i = omega arith

pub none_more : {X : Type 0} (p : X → Bool) (xs : List X) (i : ℕ) (d : X) → i < length xs → find p (take i xs) ≡ None
    → p (get_or xs i d) ≡ false → find p (take (i + 1) xs) ≡ None
none_more p xs i d inside none here =
    let joined = find-append p (take i xs) (get_or xs i d ∷ []) in
    ap (λ n. find p (take n xs)) (add_one i) ∙ ap (find p) (take-suc xs i d inside) ∙ joined ∙ (rw (none, here) refl)

pub found-any : {X : Type 0} (p : X → Bool) (xs : List X) → is_some (find p xs) ≡ list_any p xs
found-any p [] = refl
found-any p (x ∷ xs) = by_test (p x) (found-any p xs)
  where
    by_test : (b : Bool) → is_some (find p xs) ≡ list_any p xs
        → is_some (if b then Some x else find p xs) ≡ (b || list_any p xs)
    by_test true e = refl
    by_test false e = e

-- what holds in any case holds where it failed
pub on-err : {T E P : Type 0} (r : Result T E) → P → OnErr r P
on-err (Ok x) p = tt
on-err (Err e) p = p

-- a loop that looks for the place of the first element that passes
pub first-at : {X : Type 0} (p : X → Bool) (xs : List X) (i place : ℕ) (d : X) → i < length xs → place ≡ i
    → list_any p (take i xs) ≡ false
    → p (get_or xs i d) ≡ true → IsFirstAt p xs place
first-at p xs i place d inside at none here = record {
  before = take i xs;
  one = get_or xs i d;
  behind = drop (suc i) xs;
  parts = split_at xs i d inside;
  place = taken xs i inside ∙ sym at;
  none_before = none;
  passes = here;
}
  where
    taken : {Y : Type 0} (ys : List Y) (i : ℕ) → i < length ys → length (take i ys) ≡ i
    taken [] i inside = absurd (omega (arith, inside))
    taken (y ∷ ys) zero inside = refl
    taken (y ∷ ys) (suc i) inside = ap suc (taken ys i (omega (arith, inside)))

-- a loop that tests each element
any-push : {X : Type 0} (p : X → Bool) (xs : List X) (y : X) → list_any p xs ≡ false → p y ≡ false
    → list_any p (xs ++ y ∷ []) ≡ false
any-push p [] y none here = rw here refl
any-push p (x ∷ xs) y none here = by_test (p x) none (λ e. any-push p xs y e here)
  where
    by_test : (b : Bool) → (b || list_any p xs) ≡ false → (list_any p xs ≡ false → list_any p (xs ++ y ∷ []) ≡ false)
        → (b || list_any p (xs ++ y ∷ [])) ≡ false
    by_test true e later = absurd (cc)
    by_test false e later = later e

pub none_any_more : {X : Type 0} (p : X → Bool) (xs : List X) (i : ℕ) (d : X) → i < length xs
    → list_any p (take i xs) ≡ false → p (get_or xs i d) ≡ false → list_any p (take (i + 1) xs) ≡ false
none_any_more p xs i d inside none here =
    ap (λ n. list_any p (take n xs)) (add_one i) ∙ ap (list_any p) (take-suc xs i d inside)
    ∙ any-push p (take i xs) (get_or xs i d) none here

pub any_here : {X : Type 0} (p : X → Bool) (xs : List X) (i : ℕ) (d : X) → i < length xs → p (get_or xs i d) ≡ true
    → list_any p xs ≡ true
any_here p [] i d inside here = absurd (omega (arith, inside))
any_here p (x ∷ xs) zero d inside here = rw here refl
any_here p (x ∷ xs) (suc i) d inside here = by_test (p x) (any_here p xs i d (omega (arith, inside)) here)
  where
    by_test : (b : Bool) → list_any p xs ≡ true → (b || list_any p xs) ≡ true
    by_test true e = refl
    by_test false e = e
