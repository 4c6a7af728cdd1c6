-- Lists that are mapped, turned round and filtered.
use Rattle.std.proofs.Common.{◌≡◌, ◌<◌, ℕ, zero, suc, Bool, true, false, List, [], ◌∷◌, ◌++◌, map, reverse, length}
use Rattle.std.proofs.Common.{get_or, refl, sym, ap, subst, ◌∙◌, arith}
use Rattle.std.specs.Prelude.{filter, if◌then◌else◌}
use Rattle.std.proofs.lemmas.List.{map-append, reverse-append, append-nil}
use Rattle.std.proofs.lemmas.List.Elements.{filter-append}
use Rattle.order_law.specs.Headline.{Each}

pub map-reverse : {X Y : Type 0} (f : X → Y) (xs : List X) → map f (reverse xs) ≡ reverse (map f xs)
map-reverse f [] = refl
map-reverse f (x ∷ xs) =
    ap (map f) (reverse-append (x ∷ []) xs) ∙
    (map-append f (reverse xs) (x ∷ []) ∙ (ap (λ ys. ys ++ f x ∷ []) (map-reverse f xs)
    ∙ sym (reverse-append (f x ∷ []) (map f xs))))

pub filter-reverse : {X : Type 0} (p : X → Bool) (xs : List X) → filter p (reverse xs) ≡ reverse (filter p xs)
filter-reverse p [] = refl
filter-reverse p (x ∷ xs) =
    ap (filter p) (reverse-append (x ∷ []) xs)
    ∙ (filter-append p (reverse xs) (x ∷ []) ∙
    (ap (λ ys. ys ++ filter p (x ∷ [])) (filter-reverse p xs) ∙ by_test (p x) refl))
  where
    by_test : (b : Bool) → p x ≡ b → reverse (filter p xs) ++ filter p (x ∷ []) ≡ reverse (filter p (x ∷ xs))
    by_test true is = rw is (sym (reverse-append (x ∷ []) (filter p xs)))
    by_test false is = rw is (append-nil (reverse (filter p xs)))

pub map-same : {X Y : Type 0} (f g : X → Y) → ((x : X) → f x ≡ g x) → (xs : List X) → map f xs ≡ map g xs
map-same f g same [] = refl
map-same f g same (x ∷ xs) = rw (same x, map-same f g same xs) refl

pub map-map : {X Y Z : Type 0} (f : Y → Z) (g : X → Y) (xs : List X) → map f (map g xs) ≡ map (λ (x : X). f (g x)) xs
map-map f g [] = refl
map-map f g (x ∷ xs) = ap (λ ys. f (g x) ∷ ys) (map-map f g xs)

pub map-each : {X Y : Type 0} (f g : X → Y) (xs : List X) → Each (λ (x : X). f x ≡ g x) xs → map f xs ≡ map g xs
map-each f g [] same = refl
map-each f g (x ∷ xs) same = rw (same.0, map-each f g xs same.1) refl

-- an element that passes the test, by its place
pub each-filtered : {X : Type 0} (P : X → Type 0) (p : X → Bool) (xs : List X) (i : ℕ) (x : X) → i < length xs
    → x ≡ get_or xs i x → p x ≡ true → Each P (filter p xs) → P x
each-filtered P p [] i x inside is passes each = absurd (omega (arith, inside))
each-filtered P p (y ∷ ys) zero x inside is passes each =
    let own : p y ≡ true = ap p (sym is) ∙ passes in
    let first : Each P (y ∷ filter p ys) = rw own at each in
    subst P (sym is) first.0
each-filtered P p (y ∷ ys) (suc i) x inside is passes each =
    each-filtered P p ys i x (omega (arith, inside)) is passes (rest (p y) each)
  where
    rest : (b : Bool) → Each P (if b then y ∷ filter p ys else filter p ys) → Each P (filter p ys)
    rest true each = each.1
    rest false each = each

pub each-mapped : {X Y : Type 0} (P : Y → Type 0) (f : X → Y) (xs : List X) → Each P (map f xs)
    → Each (λ (x : X). P (f x)) xs
each-mapped P f [] each = tt
each-mapped P f (x ∷ xs) each = (each.0, each-mapped P f xs each.1)
