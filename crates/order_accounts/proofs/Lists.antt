-- Loops over lists.
use Rattle.std.proofs.Common.{◌≡◌, ℕ, suc, ◌+◌, ◌<◌, Bool, true, false, List, [], ◌∷◌, ◌++◌, length, map, take, drop}
use Rattle.std.proofs.Common.{get_or, set, refl, ap, ◌∙◌, Some, None, arith}
use Rattle.std.proofs.Math.Seq.{split_at, take-suc}
use Rattle.std.proofs.lemmas.List.{get_or_default}
use Rattle.std.proofs.lemmas.List.Edits.{map_over_more}
use Rattle.std.proofs.lemmas.List.Folds.{find-append}
use Rattle.std.specs.List.{find, list_any}

-- a loop that changes each element
pub changed_more : {X : Type 0} (f : X → X) (xs ys : List X) (i : ℕ) (d : X) → i < length xs → i < length ys
    → ys ≡ map f (take i xs) ++ drop i xs → set ys i (f (get_or ys i d)) ≡ map f (take (i + 1) xs) ++ drop (i + 1) xs
changed_more f xs ys i d inside there so_far =
    map_over_more f xs ys i (get_or ys i d) inside so_far (get_or_default ys i d (get_or ys i d) there)

-- a test on what elements become
pub list_any_map : {X Y : Type 0} (p : Y → Bool) (f : X → Y) (xs : List X)
    → list_any p (map f xs) ≡ list_any (λ x. p (f x)) xs
list_any_map p f [] = refl
list_any_map p f (x ∷ xs) = rw (list_any_map p f xs) refl

-- the first that passes is the next one
first_is : {X : Type 0} (p : X → Bool) (x : X) (xs : List X) → p x ≡ true → find p (x ∷ xs) ≡ Some x
first_is p x xs here = rw here refl

-- a loop that looks for the first element that passes
pub found_here : {X : Type 0} (p : X → Bool) (xs : List X) (i : ℕ) (d : X) → i < length xs → find p (take i xs) ≡ None
    → p (get_or xs i d) ≡ true → find p xs ≡ Some (get_or xs i d)
found_here p xs i d inside none here =
    let parts = split_at xs i d inside in
    let joined = find-append p (take i xs) (get_or xs i d ∷ drop (suc i) xs) in
    let first = first_is p (get_or xs i d) (drop (suc i) xs) here in
    ap (find p) parts ∙ joined ∙ (rw (none, first) refl)

add_one : (i : ℕ) → i + 1 ≡ suc i
add_one i = omega arith

pub none_more : {X : Type 0} (p : X → Bool) (xs : List X) (i : ℕ) (d : X) → i < length xs → find p (take i xs) ≡ None
    → p (get_or xs i d) ≡ false → find p (take (i + 1) xs) ≡ None
none_more p xs i d inside none here =
    let joined = find-append p (take i xs) (get_or xs i d ∷ []) in
    ap (λ n. find p (take n xs)) (add_one i) ∙ ap (find p) (take-suc xs i d inside) ∙ joined ∙ (rw (none, here) refl)
