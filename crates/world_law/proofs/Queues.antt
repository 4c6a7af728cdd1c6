-- Lists of what a market is asked, one behind the other: each message stands behind those that decide the tokens that
-- it needs.
use Rattle.std.proofs.Common.{◌≡◌, ℕ, zero, suc, Bool, true, false, List, [], ◌∷◌, ◌++◌, filter, refl, sym, ap, ◌∙◌}
use Rattle.std.proofs.Common.{subst, Some, ◌⊎◌, inl, inr, ⊎_elim}
use Rattle.std.specs.Prelude.{if◌then◌else◌}
use Rattle.order_law.specs.History.{Asked, SaysReplace, SaysCancel}
use Rattle.market_law.specs.Machine.{Machine}
use Rattle.market_law.specs.Run.{Move, moves}
use Rattle.world_law.specs.Asked.{IsIn}
use Rattle.world_law.proofs.NeverLive.{AsksAsAsked, IsDecided, NeverLive, decided-kept}
use Rattle.world_law.proofs.Naming.{gives}

-- the tokens that a message needs decided: a replace the one that it goes from, a cancel all those that its request is
-- of
pub data Needs (asks : List Asked) (y : Asked) (u : List ℕ) : Type 0 where
  FromIt : (to : List ℕ) → y.said ≡ SaysReplace u to → Needs asks y u
  OfRequest : (t : List ℕ) → y.said ≡ SaysCancel t → (z : Asked) → IsIn z asks → z.order ≡ y.order → z.id ≡ y.id
      → z.said ≡ SaysCancel u → Needs asks y u

-- one of them asks for the token
abbrev pub NamedIn : List Asked → List ℕ → Type 0
NamedIn [] u = ⊥
NamedIn (x ∷ xs) u = (gives x.said ≡ Some u) ⊎ NamedIn xs u

pub named-in : (a : Asked) (xs : List Asked) (u : List ℕ) → IsIn a xs → gives a.said ≡ Some u → NamedIn xs u
named-in a [] u i e = i
named-in a (x ∷ xs) u i e = ⊎_elim (λ same. inl (ap (λ (y : Asked). gives y.said) same ∙ e))
    (λ k. inr (named-in a xs u k e)) i

pub named-left : (xs ys : List Asked) (u : List ℕ) → NamedIn xs u → NamedIn (xs ++ ys) u
named-left [] ys u k = absurd k
named-left (x ∷ xs) ys u k = ⊎_elim (λ e. inl e) (λ e. inr (named-left xs ys u e)) k

pub named-right : (xs ys : List Asked) (u : List ℕ) → NamedIn ys u → NamedIn (xs ++ ys) u
named-right [] ys u k = k
named-right (x ∷ xs) ys u k = inr (named-right xs ys u k)

-- each needs what is settled already, or asked for by one before it
abbrev pub KeptFrom : List Asked → (List ℕ → Type 0) → List Asked → Type 0
KeptFrom asks S [] = Unit {0}
KeptFrom asks S (y ∷ ys) = ((u : List ℕ) → Needs asks y u → S u) × KeptFrom asks (λ u. S u ⊎ (gives y.said ≡ Some u)) ys

pub kept-more : (asks : List Asked) (S R : List ℕ → Type 0) (L : List Asked) → ((u : List ℕ) → S u → R u)
    → KeptFrom asks S L → KeptFrom asks R L
kept-more asks S R [] more k = tt
kept-more asks S R (y ∷ ys) more k = (
  λ u n. more u (k.0 u n),
  kept-more asks (λ u. S u ⊎ (gives y.said ≡ Some u))
      (λ u. R u ⊎ (gives y.said ≡ Some u)) ys (λ u h. ⊎_elim (λ s. inl (more u s)) (λ e. inr e) h) k.1,
)

pub kept-append : (asks : List Asked) (S : List ℕ → Type 0) (L M : List Asked) → KeptFrom asks S L
    → KeptFrom asks (λ u. S u ⊎ NamedIn L u) M → KeptFrom asks S (L ++ M)
kept-append asks S [] M k l = kept-more asks (λ u. S u ⊎ NamedIn [] u) S M (λ u h. ⊎_elim (λ s. s) (λ e. absurd e) h) l
kept-append asks S (y ∷ ys) M k l = (
  k.0,
  kept-append asks (λ u. S u ⊎ (gives y.said ≡ Some u)) ys M k.1
      (kept-more asks (λ u. S u ⊎ NamedIn (y ∷ ys) u) (λ u. (S u ⊎ (gives y.said ≡ Some u)) ⊎ NamedIn ys u) M
      (λ u h. ⊎_elim (λ s. inl (inl s)) (λ n. ⊎_elim (λ e. inl (inr e)) (λ e. inr e) n) h) l),
)

-- new ones, each of which needs what is settled
pub kept-new : (asks : List Asked) (S : List ℕ → Type 0) (M : List Asked)
    → ((y : Asked) → IsIn y M → (u : List ℕ) → Needs asks y u → S u) → KeptFrom asks S M
kept-new asks S [] needs = tt
kept-new asks S (y ∷ ys) needs = (
  needs y (inl refl),
  kept-new asks (λ u. S u ⊎ (gives y.said ≡ Some u)) ys
      (λ z i u n. inl (needs z (inr i) u n)),
)

-- more was asked, by which none of these needs more
pub kept-asked : (asks asks' : List Asked) (S : List ℕ → Type 0) (L : List Asked)
    → ((y : Asked) → IsIn y L → (u : List ℕ) → Needs asks' y u → Needs asks y u) → KeptFrom asks S L
    → KeptFrom asks' S L
kept-asked asks asks' S [] fewer k = tt
kept-asked asks asks' S (y ∷ ys) fewer k = (
  λ u n. k.0 u (fewer y (inl refl) u n),
  kept-asked asks asks' (λ u. S u ⊎ (gives y.said ≡ Some u)) ys
      (λ z i. fewer z (inr i)) k.1,
)

-- ---- some of them fall

abbrev pub Thinned : (Asked → Type 0) → List Asked → List Asked → Type 0
Thinned D [] bs = bs ≡ []
Thinned D (a ∷ more) bs = ((cs : List Asked) × (bs ≡ a ∷ cs) × Thinned D more cs) ⊎ (D a × Thinned D more bs)

pub thinned-same : (D : Asked → Type 0) (xs : List Asked) → Thinned D xs xs
thinned-same D [] = refl
thinned-same D (x ∷ xs) = inl (xs, refl, thinned-same D xs)

-- what is left was there
pub thinned-in : (D : Asked → Type 0) (a : Asked) (xs ys : List Asked) → Thinned D xs ys → IsIn a ys → IsIn a xs
thinned-in D a [] ys t i = subst (IsIn a) t i
thinned-in D a (x ∷ xs) ys t i = ⊎_elim (λ h. ⊎_elim (λ same. inl same) (λ k. inr (thinned-in D a xs h.0 h.2 k))
    (subst (IsIn a) h.1 i)) (λ h. inr (thinned-in D a xs ys h.1 i)) t

pub thinned-filter : (D : Asked → Type 0) (f : Asked → Bool) (xs : List Asked)
    → ((a : Asked) → IsIn a xs → f a ≡ false → D a) → Thinned D xs (filter f xs)
thinned-filter D f [] falls = refl
thinned-filter D f (x ∷ xs) falls = by_test (f x) refl (thinned-filter D f xs (λ a i. falls a (inr i)))
  where
    by_test : (b : Bool) → f x ≡ b → Thinned D xs (filter f xs)
        → Thinned D (x ∷ xs) (if b then x ∷ filter f xs else filter f xs)
    by_test true e rest = inl (filter f xs, refl, rest)
    by_test false e rest = inr (falls x (inl refl) e, rest)

pub kept-thinned : (asks : List Asked) (S : List ℕ → Type 0) (D : Asked → Type 0) (xs ys : List Asked)
    → ((a : Asked) → D a → (u : List ℕ) → gives a.said ≡ Some u → S u) → Thinned D xs ys → KeptFrom asks S xs
    → KeptFrom asks S ys
kept-thinned asks S D [] ys settles t k = subst (KeptFrom asks S) (sym t) tt
kept-thinned asks S D (x ∷ xs) ys settles t k =
    ⊎_elim
    (λ h. subst (KeptFrom asks S) (sym h.1) (
      k.0,
      kept-thinned asks (λ u. S u ⊎ (gives x.said ≡ Some u)) D xs h.0
          (λ a d u e. inl (settles a d u e)) h.2 k.1,
    ))
    (λ h. kept-thinned asks S D xs ys settles h.1
    (kept-more asks (λ u. S u ⊎ (gives x.said ≡ Some u)) S xs
    (λ u s. ⊎_elim (λ w. w) (λ e. settles x h.0 u e) s) k.1)) t

pub named-thinned : (S : List ℕ → Type 0) (D : Asked → Type 0) (xs ys : List Asked) (u : List ℕ)
    → ((a : Asked) → D a → gives a.said ≡ Some u → S u) → Thinned D xs ys → NamedIn xs u → S u ⊎ NamedIn ys u
named-thinned S D [] ys u settles t n = absurd n
named-thinned S D (x ∷ xs) ys u settles t n =
    ⊎_elim
    (λ h. subst (λ (zs : List Asked). S u ⊎ NamedIn zs u) (sym h.1)
    (⊎_elim (λ e. inr (inl e)) (λ m. ⊎_elim (λ s. inl s) (λ l. inr (inr l)) (named-thinned S D xs h.0 u settles h.2 m))
    n))
    (λ h. ⊎_elim (λ e. inl (settles x h.0 e)) (λ m. named-thinned S D xs ys u settles h.1 m) n) t

-- ---- what is decided, as more is asked and the machine moves

pub never-more : (asks asks' : List Asked) (m : Machine) → ((a : Asked) → IsIn a asks → IsIn a asks')
    → (n : ℕ) (u : List ℕ) → NeverLive asks m n u → NeverLive asks' m n u
never-more asks asks' m more zero u k = k
never-more asks asks' m more (suc n) u k = (
  k.0,
  record {
    by = k.1.by;
    from = k.1.from;
    there = more k.1.by k.1.there;
    says = k.1.says;
    holds_from =
        never-more asks asks' m more n k.1.from k.1.holds_from;
  },
)

pub decided-more : (asks asks' : List Asked) (m : Machine) → ((a : Asked) → IsIn a asks → IsIn a asks') → (u : List ℕ)
    → IsDecided asks m u → IsDecided asks' m u
decided-more asks asks' m more u (inl used) = inl used
decided-more asks asks' m more u (inr k) =
    inr (record { depth = k.depth; is = never-more asks asks' m more k.depth u k.is })

-- a port's list of what it is asked, at a machine: each stands behind what it needs; and each token that was asked for
-- is decided or asked for in the list
pub record IsQueue (asks : List Asked) (m : Machine) (L : List Asked) : Type 0 where
  pub kept : KeptFrom asks (IsDecided asks m) L
  pub given : (a : Asked) (u : List ℕ) → IsIn a asks → gives a.said ≡ Some u → IsDecided asks m u ⊎ NamedIn L u

pub queue-moved : (asks : List Asked) (m : Machine) (L : List Asked) (v : Move) → AsksAsAsked asks v → IsQueue asks m L
    → IsQueue asks (moves m v).machine L
queue-moved asks m L v asked k = record {
  kept = kept-more asks (IsDecided asks m) (IsDecided asks (moves m v).machine) L
      (λ u d. decided-kept asks m v asked u d) k.kept;
  given = λ a u i e. ⊎_elim (λ d. inl (decided-kept asks m v asked u d)) (λ n. inr n) (k.given a u i e);
}

-- some fall that are decided
pub queue-thinned : (asks : List Asked) (m : Machine) (D : Asked → Type 0) (L M : List Asked)
    → ((a : Asked) → D a → (u : List ℕ) → gives a.said ≡ Some u → IsDecided asks m u) → Thinned D L M → IsQueue asks m L
    → IsQueue asks m M
queue-thinned asks m D L M settles t k = record {
  kept = kept-thinned asks (IsDecided asks m) D L M settles t k.kept;
  given = λ a u i e. ⊎_elim (λ d. inl d) (λ n. named-thinned (IsDecided asks m) D L M u (λ b d f. settles b d u f) t n)
      (k.given a u i e);
}
