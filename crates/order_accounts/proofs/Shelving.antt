-- Items stand where they belong, one more too.
use Rattle.std.proofs.Common.{◌≡◌, ◌≢◌, ◌<◌, ◌≤◌, ◌+◌, ℕ, zero, suc, Bool, true, false, List, [], ◌∷◌, ◌++◌, length}
use Rattle.std.proofs.Common.{map, reverse, get_or, set, replicate, drop, take, refl, sym, ap, ◌∙◌, arith, eqb-true}
use Rattle.std.proofs.Common.{eq-eqb, append_assoc}
use Rattle.std.specs.Prelude.{◌==◌, filter, if◌then◌else◌}
use Rattle.std.proofs.lemmas.List.{append-nil, get_or-replicate, get_or-set_other, get_or-set_same, length-map}
use Rattle.std.proofs.lemmas.List.{length-replicate, length-set, map-set, reverse-append, take_more}
use Rattle.std.proofs.lemmas.List.Elements.{filter-append}
use Rattle.order_accounts.specs.Shelved.{AreBelow, AreShelved, picked, places_of}

length-more : {X : Type 0} (xs : List X) (x : X) → length (xs ++ x ∷ []) ≡ suc (length xs)
length-more [] x = refl
length-more (y ∷ ys) x = ap suc (length-more ys x)

at-place : {V Y : Type 0} (f : V → Y) (xs : List V) (i : ℕ) (d : V) (e : Y) → i < length xs
    → get_or (map f xs) i e ≡ f (get_or xs i d)
at-place f [] i d e inside = absurd (omega (arith, inside))
at-place f (x ∷ xs) zero d e inside = refl
at-place f (x ∷ xs) (suc i) d e inside = at-place f xs i d e (omega (arith, inside))

pub nothing : {X : Type 0} (at : ℕ → X → Bool) (n : ℕ) (none : List ℕ) → none ≡ []
    → AreShelved {X = X} at [] (replicate n none)
nothing at n none is i inside =
    get_or-replicate n i none [] (omega (arith, inside, length-replicate n none)) ∙ is

-- an item behind those of a shelf, as a view has it
pub put-there : {V X : Type 0} (items : V → List X) (shelves : List V) (p : ℕ) (old new : V) (x : X)
    (row : List (List X)) → map items shelves ≡ row → p < length row → old ≡ get_or shelves p old
    → items new ≡ items old ++ x ∷ []
    → map items (set shelves p new) ≡ set row p (get_or row p [] ++ x ∷ [])
put-there {V} {X} items shelves p old new x row is inside there pushed =
    let within : p < length shelves = omega (arith, inside, ap length is, length-map shelves items) in
    let same : get_or row p [] ≡ items old = ap (λ (r : List (List X)). get_or r p []) (sym is)
    ∙ (at-place items shelves p old [] within ∙ ap items (sym there)) in
    map-set items shelves p new
    ∙ (ap (λ ys. set (map items shelves) p ys) (pushed ∙ ap (λ ys. ys ++ x ∷ []) (sym same))
    ∙ ap (λ (r : List (List X)). set r p (get_or row p [] ++ x ∷ [])) is)

-- ---- places of items, one more

here-or-not : (b : Bool) (j k : ℕ) → j ≡ k → (if b then j ∷ [] else []) ≡ (if b then k ∷ [] else [])
here-or-not b j k is = ap (λ (n : ℕ). if b then n ∷ [] else []) is

pub places-more : {X : Type 0} (p : X → Bool) (k : ℕ) (xs : List X) (x : X)
    → places_of p k (xs ++ x ∷ []) ≡ places_of p k xs ++ (if p x then (k + length xs) ∷ [] else [])
places-more p k [] x = here-or-not (p x) k (k + 0) (omega arith)
places-more {X} p k (y ∷ ys) x = by_test (p y)
    (places-more p (suc k) ys x
    ∙ ap (λ ns. places_of p (suc k) ys ++ ns)
    (here-or-not (p x) (suc k + length ys) (k + length (y ∷ ys)) (omega arith)))
  where
    by_test : (b : Bool) → places_of p (suc k) (ys ++ x ∷ [])
        ≡ places_of p (suc k) ys ++ (if p x then (k + length (y ∷ ys)) ∷ [] else [])
        → (if b then k ∷ places_of p (suc k) (ys ++ x ∷ []) else places_of p (suc k) (ys ++ x ∷ []))
        ≡ (if b then k ∷ places_of p (suc k) ys else places_of p (suc k) ys)
        ++ (if p x then (k + length (y ∷ ys)) ∷ [] else [])
    by_test true rest = ap (λ ns. k ∷ ns) rest
    by_test false rest = rest

-- an item that belongs nowhere
pub passed : {X : Type 0} (at : ℕ → X → Bool) (items : List X) (x : X) (shelves : List (List ℕ))
    → ((i : ℕ) → at i x ≡ false) → AreShelved at items shelves → AreShelved at (items ++ x ∷ []) shelves
passed at items x shelves nowhere all i inside =
    let none : (if at i x then (0 + length items) ∷ [] else []) ≡ [] = rw (nowhere i) refl in
    all i inside ∙ (sym (append-nil (places_of (at i) 0 items))
    ∙ (ap (λ ys. places_of (at i) 0 items ++ ys) (sym none) ∙ sym (places-more (at i) 0 items x)))

-- an item that belongs on one shelf, its place put there
pub more : {X : Type 0} (at : ℕ → X → Bool) (items : List X) (x : X) (shelves : List (List ℕ)) (p k : ℕ)
    → length items ≡ k → p < length shelves → ((i : ℕ) → at i x ≡ (p == i)) → AreShelved at items shelves
    → AreShelved at (items ++ x ∷ []) (set shelves p (get_or shelves p [] ++ k ∷ []))
more {X} at items x shelves p k many inside belongs all i within = by_place (p == i) refl
  where
    short : i < length shelves
    short = omega (arith, within, length-set shelves p (get_or shelves p [] ++ k ∷ []))

    next : 0 + length items ≡ k
    next = omega (arith, many)

    by_place : (b : Bool) → (p == i) ≡ b → get_or (set shelves p (get_or shelves p [] ++ k ∷ [])) i []
        ≡ places_of (at i) 0 (items ++ x ∷ [])
    by_place true e =
        let same : p ≡ i = eqb-true p i e in
        let own : (if at i x then (0 + length items) ∷ [] else []) ≡ k ∷ [] =
        ap (λ (b : Bool). if b then (0 + length items) ∷ [] else []) (belongs i ∙ e) ∙ ap (λ (n : ℕ). n ∷ []) next in
        ap (λ (j : ℕ). get_or (set shelves p (get_or shelves p [] ++ k ∷ [])) j []) (sym same)
        ∙ (get_or-set_same shelves p (get_or shelves p [] ++ k ∷ []) [] inside
        ∙ (ap (λ (j : ℕ). get_or shelves j [] ++ k ∷ []) same
        ∙ (ap (λ ys. ys ++ k ∷ []) (all i short) ∙
        (ap (λ ys. places_of (at i) 0 items ++ ys) (sym own) ∙ sym (places-more (at i) 0 items x)))))
    by_place false e =
        let other : i ≢ p = λ is. no is e in
        let none : (if at i x then (0 + length items) ∷ [] else []) ≡ [] =
        ap (λ (b : Bool). if b then (0 + length items) ∷ [] else []) (belongs i ∙ e) in
        get_or-set_other shelves p i (get_or shelves p [] ++ k ∷ []) [] other
        ∙ (all i short ∙ (sym (append-nil (places_of (at i) 0 items))
        ∙ (ap (λ ys. places_of (at i) 0 items ++ ys) (sym none) ∙ sym (places-more (at i) 0 items x))))
      where
        no : i ≡ p → (p == i) ≡ false → ⊥
        no is e = absurd (let again : (p == i) ≡ true = eq-eqb p i (sym is) in cc)

-- ---- what stands at places

at-end : {X : Type 0} (ys : List X) (x : X) (xs : List X) → take 1 (drop (length ys) (ys ++ x ∷ xs)) ≡ x ∷ []
at-end [] x xs = refl
at-end (y ∷ ys) x xs = at-end ys x xs

picked-behind : {X : Type 0} (p : X → Bool) (ys xs : List X)
    → picked (ys ++ xs) (places_of p (length ys) xs) ≡ filter p xs
picked-behind p ys [] = refl
picked-behind {X} p ys (x ∷ xs) = by_test (p x) refl
    (ap (λ (zs : List X). picked zs (places_of p (suc (length ys)) xs)) (sym (append_assoc ys (x ∷ []) xs))
    ∙ (ap (λ (n : ℕ). picked ((ys ++ x ∷ []) ++ xs) (places_of p n xs)) (sym (length-more ys x))
    ∙ picked-behind p (ys ++ x ∷ []) xs))
  where
    by_test : (b : Bool) → p x ≡ b
        → picked (ys ++ x ∷ xs) (places_of p (suc (length ys)) xs) ≡ filter p xs
        → picked (ys ++ x ∷ xs) (if b then length ys ∷ places_of p (suc (length ys)) xs
        else places_of p (suc (length ys)) xs) ≡ (if b then x ∷ filter p xs else filter p xs)
    by_test true is rest = ap (λ zs. zs ++ picked (ys ++ x ∷ xs) (places_of p (suc (length ys)) xs)) (at-end ys x xs)
        ∙ ap (λ zs. x ∷ zs) rest
    by_test false is rest = rest

pub picked-places : {X : Type 0} (p : X → Bool) (xs : List X) → picked xs (places_of p 0 xs) ≡ filter p xs
picked-places p xs = picked-behind p [] xs

pub picked-append : {X : Type 0} (items : List X) (js ks : List ℕ)
    → picked items (js ++ ks) ≡ picked items js ++ picked items ks
picked-append items [] ks = refl
picked-append items (j ∷ js) ks =
    ap (λ zs. take 1 (drop j items) ++ zs) (picked-append items js ks)
    ∙ sym (append_assoc (take 1 (drop j items)) (picked items js) (picked items ks))

picked-one : {X : Type 0} (items : List X) (k : ℕ) (x : X) → k < length items → x ≡ get_or items k x
    → take 1 (drop k items) ≡ x ∷ []
picked-one [] k x inside is = absurd (omega (arith, inside))
picked-one (y ∷ ys) zero x inside is = ap (λ z. z ∷ []) (sym is)
picked-one (y ∷ ys) (suc k) x inside is = picked-one ys k x (omega (arith, inside)) is

-- one place more
pub picked-more : {X : Type 0} (items : List X) (ks : List ℕ) (i d : ℕ) (x : X) (made : List X) → i < length ks
    → get_or ks i d < length items → x ≡ get_or items (get_or ks i d) x → made ≡ picked items (take i ks)
    → made ++ x ∷ [] ≡ picked items (take (i + 1) ks)
picked-more items ks i d x made inside within there before =
    let k : ℕ = get_or ks i d in
    let one : picked items (k ∷ []) ≡ x ∷ [] = append-nil (take 1 (drop k items)) ∙ picked-one items k x within there in
    ap (λ zs. zs ++ x ∷ []) before
    ∙ (ap (λ zs. picked items (take i ks) ++ zs) (sym one)
    ∙ (sym (picked-append items (take i ks) (k ∷ [])) ∙ ap (picked items) (sym (take_more ks i d inside))))

-- ---- places are those of items

pub places-below : {X : Type 0} (p : X → Bool) (k n : ℕ) (xs : List X) → k + length xs ≤ n
    → AreBelow n (places_of p k xs)
places-below p k n [] few = tt
places-below p k n (x ∷ xs) few = by_test (p x) (places-below p (suc k) n xs (omega (arith, few)))
  where
    by_test : (b : Bool) → AreBelow n (places_of p (suc k) xs)
        → AreBelow n (if b then k ∷ places_of p (suc k) xs else places_of p (suc k) xs)
    by_test true rest = (omega (arith, few), rest)
    by_test false rest = rest

pub below-at : (n : ℕ) (ks : List ℕ) (i d : ℕ) → AreBelow n ks → i < length ks → get_or ks i d < n
below-at n [] i d below inside = absurd (omega (arith, inside))
below-at n (j ∷ js) zero d below inside = below.0
below-at n (j ∷ js) (suc i) d below inside = below-at n js i d below.1 (omega (arith, inside))

pub filter-reverse : {X : Type 0} (p : X → Bool) (xs : List X) → filter p (reverse xs) ≡ reverse (filter p xs)
filter-reverse p [] = refl
filter-reverse p (x ∷ xs) =
    ap (filter p) (reverse-append (x ∷ []) xs)
    ∙ (filter-append p (reverse xs) (x ∷ []) ∙
    (ap (λ ys. ys ++ filter p (x ∷ [])) (filter-reverse p xs) ∙ by_test (p x) refl))
  where
    by_test : (b : Bool) → p x ≡ b → reverse (filter p xs) ++ filter p (x ∷ []) ≡ reverse (filter p (x ∷ xs))
    by_test true is = rw is (sym (reverse-append (x ∷ []) (filter p xs)))
    by_test false is = rw is (append-nil (reverse (filter p xs)))
