-- The line at one place is another: what is known of each place is known of each again.
use Rattle.std.proofs.Common.{◌≡◌, ◌≢◌, ℕ, zero, suc, ◌+◌, ◌<◌, ◌≤◌, ◌==◌, List, [], ◌∷◌, length, get_or, slice_set}
use Rattle.std.proofs.Common.{Option, Some, refl, sym, ap, ◌∙◌, subst, arith}
use Rattle.std.proofs.lemmas.Bool.{eq-eqb, eqb-true}
use Rattle.std.specs.Prelude.{slice_get, if◌then◌else◌, Bool, true, false}
use Rattle.gate_sessions.specs.Lines.{called, link_set}

-- of the place itself
pub at-place : {A : Type 0} (P : ℕ → A → Type 0) (xs : List A) (p : ℕ) (d : A) → d ≡ get_or xs p d → p < length xs
    → ((i : ℕ) (x : A) → slice_get xs i ≡ Some x → P i x) → P p d
at-place {A = A} P xs p d is inside all = subst (P p) (sym is) (there P xs p inside all)
  where
    there : (P : ℕ → A → Type 0) (xs : List A) (p : ℕ) → p < length xs
        → ((i : ℕ) (x : A) → slice_get xs i ≡ Some x → P i x) → P p (get_or xs p d)
    there P [] p inside all = absurd (omega (arith, inside))
    there P (z ∷ zs) zero inside all = all 0 z refl
    there P (z ∷ zs) (suc p) inside all = there (λ j. P (suc j)) zs p (omega (arith, inside)) (λ j. all (suc j))

pub each-set : {A : Type 0} (P Q : ℕ → A → Type 0) (xs : List A) (p : ℕ) (y d : A) → p < length xs
    → ((i : ℕ) (x : A) → slice_get xs i ≡ Some x → P i x)
    → (P p (get_or xs p d) → Q p y)
    → ((i : ℕ) (x : A) → i ≢ p → P i x → Q i x)
    → (i : ℕ) (x : A) → slice_get (slice_set xs p y) i ≡ Some x → Q i x
each-set P Q [] p y d inside all there other i x e = absurd (omega (arith, inside))
each-set {A = A} P Q (z ∷ zs) zero y d inside all there other zero x e = let same : y ≡ x = cc in
    subst (Q 0) same (there (all 0 z refl))
each-set P Q (z ∷ zs) zero y d inside all there other (suc i) x e =
    other (suc i) x (λ f. omega (arith, f)) (all (suc i) x e)
each-set P Q (z ∷ zs) (suc p) y d inside all there other zero x e = other zero x (λ f. omega (arith, f)) (all zero x e)
each-set P Q (z ∷ zs) (suc p) y d inside all there other (suc i) x e =
    each-set (λ j. P (suc j)) (λ j. Q (suc j)) zs p y d (omega (arith, inside)) (λ j. all (suc j)) there
    (λ j w ne. other (suc j) w (λ f. ne (omega (arith, f)))) i x e

-- the line that is set is the one at the place
pub new-there : {A : Type 0} (P : A → Type 0) (xs : List A) (p : ℕ) (y : A) → p < length xs → P y → (x : A)
    → slice_get (slice_set xs p y) p ≡ Some x → P x
new-there P [] p y inside holds x e = absurd (omega (arith, inside))
new-there P (z ∷ zs) zero y inside holds x e = let same : y ≡ x = cc in subst P same holds
new-there P (z ∷ zs) (suc p) y inside holds x e = new-there P zs p y (omega (arith, inside)) holds x e

set-here : (n : ℕ) (link : Option ℕ) (links : ℕ → Option ℕ) → link ≡ link_set n link links n
set-here n link links = rw (eq-eqb n n refl) refl

set-elsewhere : (i p : ℕ) (link : Option ℕ) (links : ℕ → Option ℕ) → i ≢ p
    → links (i + 1) ≡ link_set (p + 1) link links (i + 1)
set-elsewhere i p link links ne = by_test (i + 1 == p + 1) refl
  where
    by_test : (b : Bool) → (i + 1 == p + 1) ≡ b → links (i + 1) ≡ (if b then link else links (i + 1))
    by_test true is = let same = eqb-true (i + 1) (p + 1) is in absurd (ne (omega (arith, same)))
    by_test false is = refl

called-here : {X : Type 0} (n : ℕ) (call : X) (calls : ℕ → List X) → call ∷ calls n ≡ called n call calls n
called-here n call calls = rw (eq-eqb n n refl) refl

called-elsewhere : {X : Type 0} (i p : ℕ) (call : X) (calls : ℕ → List X) → i ≢ p
    → calls (i + 1) ≡ called (p + 1) call calls (i + 1)
called-elsewhere {X = X} i p call calls ne = by_test (i + 1 == p + 1) refl
  where
    by_test : (b : Bool) → (i + 1 == p + 1) ≡ b → calls (i + 1) ≡ (if b then call ∷ calls (i + 1) else calls (i + 1))
    by_test true is = let same = eqb-true (i + 1) (p + 1) is in absurd (ne (omega (arith, same)))
    by_test false is = refl

-- what the line there keeps of itself each keeps
pub kept-set : {A B : Type 0} (f : A → B) (g : ℕ → B) (xs : List A) (p : ℕ) (y d : A) → d ≡ get_or xs p d
    → p < length xs → f y ≡ f d
    → ((i : ℕ) (x : A) → slice_get xs i ≡ Some x → f x ≡ g (i + 1))
    → (i : ℕ) (x : A) → slice_get (slice_set xs p y) i ≡ Some x → f x ≡ g (i + 1)
kept-set {A = A} f g xs p y d is inside same all =
    each-set (λ i (x : A). f x ≡ g (i + 1)) (λ i (x : A). f x ≡ g (i + 1)) xs p y d inside all (λ e. same ∙ ap f is ∙ e)
    (λ i x ne e. e)

-- the line there has another link
pub linked-set : {A : Type 0} (f : A → Option ℕ) (link : Option ℕ) (links : ℕ → Option ℕ) (xs : List A) (p : ℕ)
    (y d : A) → p < length xs → f y ≡ link
    → ((i : ℕ) (x : A) → slice_get xs i ≡ Some x → f x ≡ links (i + 1))
    → (i : ℕ) (x : A) → slice_get (slice_set xs p y) i ≡ Some x → f x ≡ link_set (p + 1) link links (i + 1)
linked-set {A = A} f link links xs p y d inside is all =
    each-set (λ i (x : A). f x ≡ links (i + 1))
    (λ i (x : A). f x ≡ link_set (p + 1) link links (i + 1)) xs p y d inside all
    (λ e. is ∙ set-here (p + 1) link links) (λ i x ne e. e ∙ set-elsewhere i p link links ne)

-- a number of the line there stays within a bound
pub within-set : {A : Type 0} (f : A → ℕ) (n m : ℕ) (xs : List A) (p : ℕ) (y d : A) → d ≡ get_or xs p d → p < length xs
    → n ≤ m → (f d ≤ n → f y ≤ m)
    → ((i : ℕ) (x : A) → slice_get xs i ≡ Some x → f x ≤ n)
    → (i : ℕ) (x : A) → slice_get (slice_set xs p y) i ≡ Some x → f x ≤ m
within-set {A = A} f n m xs p y d is inside more grows all =
    each-set (λ i (x : A). f x ≤ n) (λ i (x : A). f x ≤ m) xs p y d inside all
    (λ few. grows (subst (λ (x : A). f x ≤ n) (sym is) few)) (λ i x ne few. omega (arith, few, more))

-- the line there has one call more
pub called-set : {A K : Type 0} (Leaves : ℕ → List K → A → Type 0) (calls : ℕ → List K) (call : K) (xs : List A) (p : ℕ)
    (y d : A) → d ≡ get_or xs p d → p < length xs
    → (Leaves (p + 1) (calls (p + 1)) d → Leaves (p + 1) (call ∷ calls (p + 1)) y)
    → ((i : ℕ) (x : A) → slice_get xs i ≡ Some x → Leaves (i + 1) (calls (i + 1)) x)
    → (i : ℕ) (x : A) → slice_get (slice_set xs p y) i ≡ Some x → Leaves (i + 1) (called (p + 1) call calls (i + 1)) x
called-set {A = A} {K = K} Leaves calls call xs p y d is inside more all =
    each-set (λ i (x : A). Leaves (i + 1) (calls (i + 1)) x)
    (λ i (x : A). Leaves (i + 1) (called (p + 1) call calls (i + 1)) x) xs p y d inside all
    (λ l. subst (λ (k : List K). Leaves (p + 1) k y) (called-here (p + 1) call calls)
    (more (subst (λ (x : A). Leaves (p + 1) (calls (p + 1)) x) (sym is) l)))
    (λ i x ne l. subst (λ (k : List K). Leaves (i + 1) k x) (called-elsewhere i p call calls ne) l)
