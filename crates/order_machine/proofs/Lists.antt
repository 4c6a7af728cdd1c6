-- Members of a list by their place, after a push and after a write.
use Rattle.std.proofs.Common.{◌≡◌, suc, ◌+◌, Bool, true, false, List, [], ◌∷◌, ◌++◌, length, refl, sym, ap, ◌∙◌, arith}
use Rattle.std.proofs.Common.{Some, None}
use Rattle.std.proofs.lemmas.List.Sums.{sum_by-append}
use Rattle.std.specs.Prelude.{filter, if◌then◌else◌}
use Rattle.std.specs.List.{count_by, find}
use Rattle.order_law.specs.Headline.{Each}

-- ---- tests on members

-- the first that passes does pass
pub found-passes : {A : Type 0} (p : A → Bool) (xs : List A) (x : A) → find p xs ≡ Some x → p x ≡ true
found-passes p [] x h = absurd (cc)
found-passes p (a ∷ xs) x h = by_test (p a) refl h (λ found. found-passes p xs x found)
  where
    by_test : (b : Bool) → p a ≡ b → (if b then Some a else find p xs) ≡ Some x → (find p xs ≡ Some x → p x ≡ true)
        → p x ≡ true
    by_test true e found later = let same : a ≡ x = cc in ap p (sym same) ∙ e
    by_test false e found later = later found

-- where no member passes, none is found
pub none-found : {A : Type 0} (p : A → Bool) (P : A → Type 0) (xs : List A) → ((x : A) → P x → p x ≡ false) → Each P xs
    → find p xs ≡ None
none-found p P [] fails each = refl
none-found p P (x ∷ xs) fails each = rw (fails x each.0) (none-found p P xs fails each.1)

pub Each-map : {A : Type 0} (P Q : A → Type 0) (xs : List A) → ((x : A) → P x → Q x) → Each P xs → Each Q xs
Each-map P Q [] f each = tt
Each-map P Q (x ∷ xs) f each = (f x each.0, Each-map P Q xs f each.1)

pub Each-append : {A : Type 0} (P : A → Type 0) (xs ys : List A) → Each P xs → Each P ys → Each P (xs ++ ys)
Each-append P [] ys first rest = rest
Each-append P (x ∷ xs) ys first rest = (first.0, Each-append P xs ys first.1 rest)

pub Each-front : {A : Type 0} (P : A → Type 0) (xs ys : List A) → Each P (xs ++ ys) → Each P xs
Each-front P [] ys each = tt
Each-front P (x ∷ xs) ys each = (each.0, Each-front P xs ys each.1)

pub Each-filter : {A : Type 0} (P : A → Type 0) (p : A → Bool) (xs : List A) → Each P xs → Each P (filter p xs)
Each-filter P p [] each = tt
Each-filter P p (x ∷ xs) each = by_test (p x) (Each-filter P p xs each.1)
  where
    by_test : (b : Bool) → Each P (filter p xs) → Each P (if b then x ∷ filter p xs else filter p xs)
    by_test true rest = (each.0, rest)
    by_test false rest = rest

-- ---- counts

pub count-push : {A : Type 0} (p : A → Bool) (xs : List A) (x : A)
    → count_by p (xs ++ x ∷ []) ≡ count_by p xs + (if p x then 1 else 0)
count-push {A = A} p xs x = sum_by-append (λ (y : A). if p y then 1 else 0) xs (x ∷ []) ∙ omega arith

pub length-push : {A : Type 0} (xs : List A) (x : A) → length (xs ++ x ∷ []) ≡ suc (length xs)
length-push [] x = refl
length-push (a ∷ xs) x = ap suc (length-push xs x)

pub append-nothing : {A : Type 0} (xs : List A) → xs ++ [] ≡ xs
append-nothing [] = refl
append-nothing (a ∷ xs) = ap (λ ys. a ∷ ys) (append-nothing xs)
