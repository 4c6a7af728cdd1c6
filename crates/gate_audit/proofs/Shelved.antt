-- What is made of the elements of lists that pass a test, and what holds of each.
use Rattle.std.proofs.Common.{◌≡◌, ◌<◌, ◌≤◌, ◌+◌, ℕ, Bool, true, false, List, [], ◌∷◌, ◌++◌, length, map, take, get_or}
use Rattle.std.proofs.Common.{refl, sym, ap, subst, ◌∙◌, append_assoc, arith}
use Rattle.std.specs.Prelude.{filter}
use Rattle.std.proofs.lemmas.List.{append-nil, map-append, take_more}
use Rattle.std.proofs.lemmas.List.Elements.{filter-append}
use Rattle.order_law.specs.Headline.{Each}
use Rattle.gate_audit.specs.Read.{for_clients}
use Rattle.gate_audit.proofs.Held.{known-more}

-- ---- what is made of each that passes a test, one more

filtered-more : {X : Type 0} (p : X → Bool) (xs : List X) (i : ℕ) (x : X) → i < length xs → x ≡ get_or xs i x
    → filter p (take (i + 1) xs) ≡ filter p (take i xs) ++ filter p (x ∷ [])
filtered-more p xs i x inside is = ap (filter p) (take_more xs i x inside ∙ ap (λ y. take i xs ++ y ∷ []) (sym is))
    ∙ filter-append p (take i xs) (x ∷ [])

-- behind others
pub own-more : {X : Type 0} (p : X → Bool) (xs : List X) (i : ℕ) (x : X) (old : List X) → i < length xs
    → x ≡ get_or xs i x → p x ≡ true
    → (old ++ filter p (take i xs)) ++ x ∷ [] ≡ old ++ filter p (take (i + 1) xs)
own-more p xs i x old inside is passes =
    let own : filter p (x ∷ []) ≡ x ∷ [] = rw passes refl in
    append_assoc old (filter p (take i xs)) (x ∷ [])
    ∙ ap (λ ys. old ++ ys) (sym (filtered-more p xs i x inside is ∙ ap (λ zs. filter p (take i xs) ++ zs) own))

pub own-same : {X : Type 0} (p : X → Bool) (xs : List X) (i : ℕ) (x : X) (old : List X) → i < length xs
    → x ≡ get_or xs i x → p x ≡ false → old ++ filter p (take i xs) ≡ old ++ filter p (take (i + 1) xs)
own-same p xs i x old inside is fails =
    let none : filter p (x ∷ []) ≡ [] = rw fails refl in
    ap (λ zs. old ++ zs) (sym (filtered-more p xs i x inside is
    ∙ (ap (λ zs. filter p (take i xs) ++ zs) none ∙ append-nil (filter p (take i xs)))))

pub made-more : {X Y : Type 0} (f : X → Y) (p : X → Bool) (xs : List X) (i : ℕ) (x : X) (old : List Y) (y : Y)
    → i < length xs → x ≡ get_or xs i x → p x ≡ true → y ≡ f x
    → old ++ map f (filter p (take i xs)) ++ y ∷ [] ≡ old ++ map f (filter p (take (i + 1) xs))
made-more f p xs i x old y inside is passes made =
    let own : filter p (x ∷ []) ≡ x ∷ [] = rw passes refl in
    append_assoc old (map f (filter p (take i xs))) (y ∷ [])
    ∙ ap (λ ys. old ++ ys)
    (ap (λ z. map f (filter p (take i xs)) ++ z ∷ []) made
    ∙ sym (ap (map f) (filtered-more p xs i x inside is ∙ ap (λ zs. filter p (take i xs) ++ zs) own)
    ∙ map-append f (filter p (take i xs)) (x ∷ [])))

pub made-same : {X Y : Type 0} (f : X → Y) (p : X → Bool) (xs : List X) (i : ℕ) (x : X) (old : List Y) → i < length xs
    → x ≡ get_or xs i x → p x ≡ false
    → old ++ map f (filter p (take i xs)) ≡ old ++ map f (filter p (take (i + 1) xs))
made-same f p xs i x old inside is fails =
    let none : filter p (x ∷ []) ≡ [] = rw fails refl in
    ap (λ zs. old ++ map f zs) (sym (filtered-more p xs i x inside is
    ∙ (ap (λ zs. filter p (take i xs) ++ zs) none ∙ append-nil (filter p (take i xs)))))

pub each-append : {X : Type 0} (P : X → Type 0) (xs ys : List X) → Each P xs → Each P ys → Each P (xs ++ ys)
each-append P [] ys first second = second
each-append P (x ∷ xs) ys first second = (first.0, each-append P xs ys first.1 second)

pub each-more : {X : Type 0} (P : X → Type 0) (p : X → Bool) (xs : List X) (i : ℕ) (x : X) → i < length xs
    → x ≡ get_or xs i x → p x ≡ true → P x → Each P (filter p (take i xs)) → Each P (filter p (take (i + 1) xs))
each-more P p xs i x inside is passes own all =
    let one : filter p (x ∷ []) ≡ x ∷ [] = rw passes refl in
    subst (Each P) (sym (filtered-more p xs i x inside is ∙ ap (λ zs. filter p (take i xs) ++ zs) one))
    (each-append P (filter p (take i xs)) (x ∷ []) all (own, tt))

pub each-same : {X : Type 0} (P : X → Type 0) (p : X → Bool) (xs : List X) (i : ℕ) (x : X) → i < length xs
    → x ≡ get_or xs i x → p x ≡ false → Each P (filter p (take i xs)) → Each P (filter p (take (i + 1) xs))
each-same P p xs i x inside is fails all =
    let none : filter p (x ∷ []) ≡ [] = rw fails refl in
    subst (Each P) (sym (filtered-more p xs i x inside is
    ∙ (ap (λ zs. filter p (take i xs) ++ zs) none ∙ append-nil (filter p (take i xs))))) all

pub each-left : {X : Type 0} (P : X → Type 0) (xs ys : List X) → Each P (xs ++ ys) → Each P xs
each-left P [] ys each = tt
each-left P (x ∷ xs) ys each = (each.0, each-left P xs ys each.1)

pub each-right : {X : Type 0} (P : X → Type 0) (xs ys : List X) → Each P (xs ++ ys) → Each P ys
each-right P [] ys each = each
each-right P (x ∷ xs) ys each = each-right P xs ys each.1

-- ---- of each client

pub each-for : {X : Type 0} (P : X → Type 0) (f : ℕ → List X) (n : ℕ)
    → ((c : ℕ) → 1 ≤ c → c ≤ n → Each P (f c)) → Each P (for_clients f n)
each-for P f ℕ.zero each = tt
each-for P f (ℕ.suc n) each =
    each-append P (for_clients f n) (f (ℕ.suc n)) (each-for P f n (λ c some most. each c some (omega (arith, most))))
    (each (ℕ.suc n) (omega arith) (omega arith))

pub each-of-for : {X : Type 0} (P : X → Type 0) (f : ℕ → List X) (n : ℕ) → Each P (for_clients f n)
    → (c : ℕ) → 1 ≤ c → c ≤ n → Each P (f c)
each-of-for P f ℕ.zero each c some most = absurd (omega (arith, some, most))
each-of-for P f (ℕ.suc n) each c some most =
    let next : n + 1 ≡ ℕ.suc n = omega arith in
    known-more (λ (k : ℕ). Each P (f k)) n
    (each-of-for P f n (each-left P (for_clients f n) (f (ℕ.suc n)) each))
    (subst (λ (k : ℕ). Each P (f k)) (sym next) (each-right P (for_clients f n) (f (ℕ.suc n)) each))
    c some (omega (arith, most))
