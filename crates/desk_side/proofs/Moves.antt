-- What becomes of lists whose elements changed.
use Rattle.std.proofs.Common.{◌≡◌, ℕ, zero, suc, ◌+◌, ◌<◌, ◌≤◌, List, [], ◌∷◌, ◌++◌, length, map, Some, slice_get}
use Rattle.std.proofs.Common.{slice_set}
use Rattle.std.proofs.Common.{get_or, refl, ap, sym, ◌∙◌, subst, arith, inl, inr, append_assoc, ◌⊎◌}
use Rattle.std.proofs.lemmas.Bool.Decides.{eqb_tells}
use Rattle.std.proofs.lemmas.Option.{slice_get-get_or, slice_get_within}
use Rattle.std.proofs.lemmas.List.{append-nil}
use mathlib.Core.List.{IsPrefix}
use Rattle.desk_rings.specs.CoreEnds.{ProducerLooked, ProducerMayRelease, ProducerMayStage, OutletProducerState}
use Rattle.desk_rings.specs.CoreEnds.{ProducersLooked, ProducersMayRelease}
use Rattle.desk_rings.specs.CoreEnds.{ProducersMayStage}
use Rattle.desk_rings.proofs.Naming.{producer-stays}
use Rattle.desk_rings.proofs.Places.{each-set, get-inside, get-same, get-set-other, get-set-same, length-set}
use Rattle.desk_side.specs.Side.{ChangesAt}

-- what is the same of each element is the same of all
pub each-same : {A B : Type 0} (f : A → B) (xs ys : List A) → length ys ≡ length xs
    → ((k : ℕ) (x : A) → slice_get xs k ≡ Some x → (y : A) × (slice_get ys k ≡ Some y) × (f y ≡ f x))
    → map f ys ≡ map f xs
each-same f [] [] len each = refl
each-same f [] (y ∷ ys) len each = absurd (omega arith)
each-same f (x ∷ xs) [] len each = absurd (omega arith)
each-same f (x ∷ xs) (y ∷ ys) len each =
    let r = each zero x refl in
    let same : y ≡ r.0 = cc (r.1) in
    let rest = each-same f xs ys (omega arith) (λ j z at. each (suc j) z at) in
    cc (same, r.2, rest)

-- one was changed
pub changes-set : {A : Type 0} (P : A → A → Type 0) (xs : List A) (i : ℕ) (x y : A) → i < length xs
    → P (get_or xs i x) y → ChangesAt i P xs (slice_set xs i y)
changes-set {A} P xs i x y inside p = record {
  count = length-set xs i y;
  others = λ k ne. get-set-other xs i k y ne;
  there = λ z at. (
    y,
    get-set-same xs i y inside,
    subst (λ (w : A). P w y)
        (get-same xs i (get_or xs i x) z (slice_get-get_or xs i x inside) at) p,
  );
}

pub set-here : {A : Type 0} (P : A → Type 0) (xs : List A) (i : ℕ) (y z : A) → i < length xs
    → slice_get (slice_set xs i y) i ≡ Some z → P y → P z
set-here P xs i y z inside at p = subst P (get-same (slice_set xs i y) i y z (get-set-same xs i y inside) at) p

-- what holds of what stands at a place holds of what is read there, and the other way round
pub read-here : {A : Type 0} (P : A → Type 0) (xs : List A) (i : ℕ) (x y : A) → i < length xs → y ≡ get_or xs i x
    → ((a : A) → slice_get xs i ≡ Some a → P a) → P y
read-here P xs i x y inside is all = subst P (sym is) (all (get_or xs i x) (slice_get-get_or xs i x inside))

pub holds-here : {A : Type 0} (P : A → Type 0) (xs : List A) (i : ℕ) (x y : A) → i < length xs → y ≡ get_or xs i x → P y
    → (a : A) → slice_get xs i ≡ Some a → P a
holds-here P xs i x y inside is p a at = subst P
    (is ∙ get-same xs i (get_or xs i x) a (slice_get-get_or xs i x inside) at) p

-- one changed, and so each did as Q says
pub each-change : {A : Type 0} (i : ℕ) (P Q : A → A → Type 0) (xs ys : List A) → ChangesAt i P xs ys
    → ((x y : A) → slice_get xs i ≡ Some x → P x y → Q x y) → ((x : A) → Q x x)
    → (k : ℕ) (x : A) → slice_get xs k ≡ Some x → (y : A) × (slice_get ys k ≡ Some y) × Q x y
each-change {A} i P Q xs ys ch there stays k x at =
    elim (eqb_tells k i) [
      | inl q ↦ (
          let here : slice_get xs i ≡ Some x = rw (← q.1) at in
          let r = ch.there x here in
          (r.0, rw (q.1) r.1, there x r.0 here r.2)
          )
      | inr q ↦ (x, ch.others k q.1 ∙ at, stays x)
    ]

-- what stands there now came of something
pub was : {A : Type 0} (xs ys : List A) (k : ℕ) (y : A) → length ys ≡ length xs → slice_get ys k ≡ Some y
    → (x : A) × (slice_get xs k ≡ Some x)
was xs ys k y len at = get-inside xs k (omega (arith, slice_get_within ys k y at, len))

-- and what holds of what it came to holds of it
pub come-to : {A : Type 0} (P : A → A → Type 0) (xs ys : List A) → length ys ≡ length xs
    → ((k : ℕ) (x : A) → slice_get xs k ≡ Some x → (y : A) × (slice_get ys k ≡ Some y) × P x y)
    → (k : ℕ) (y : A) → slice_get ys k ≡ Some y → (x : A) × (slice_get xs k ≡ Some x) × P x y
come-to {A} P xs ys len each k y at =
    let x = was xs ys k y len at in
    let r = each k x.0 x.1 in
    (x.0, x.1, subst (λ (z : A). P x.0 z) (get-same ys k r.0 y r.1 at) r.2)

pub prefix-same : {A : Type 0} (xs : List A) → IsPrefix xs xs
prefix-same xs = ([], append-nil xs)

pub prefix-more : {A : Type 0} (xs ys zs : List A) → IsPrefix xs ys → IsPrefix xs (ys ++ zs)
prefix-more xs ys zs p = (p.0 ++ zs, sym (append_assoc xs p.0 zs) ∙ ap (λ w. w ++ zs) p.1)

pub prefix-trans : {A : Type 0} (xs ys zs : List A) → IsPrefix xs ys → IsPrefix ys zs → IsPrefix xs zs
prefix-trans xs ys zs p q = (p.0 ++ q.0, sym (append_assoc xs p.0 q.0) ∙ (ap (λ w. w ++ q.0) p.1 ∙ q.1))

-- what lists count for is as it was, or none lies there any more
abbrev Forgot : OutletProducerState → OutletProducerState → Type 0
Forgot w v = (v.more ≡ w.more) ⊎ ((v.more ≡ 0) × (v.places ≤ v.free))

forgot-twice : (x y z : OutletProducerState) → z.places ≡ y.places → y.free ≤ z.free → Forgot x y → Forgot y z
    → Forgot x z
forgot-twice x y z places free (inl same) (inl is) = inl (is ∙ same)
forgot-twice x y z places free (inr none) (inl is) = inr (is ∙ none.0, omega (arith, none.1, places, free))
forgot-twice x y z places free (inl same) (inr is) = inr is
forgot-twice x y z places free (inr none) (inr is) = inr is

-- looks, one after another
pub producers-twice : (x y z : List OutletProducerState) → ProducersLooked x y → ProducersLooked y z
    → ProducersLooked x z
producers-twice x y z p q = record {
  count = q.count ∙ p.count;
  each = λ d w at. let v = p.each d w at in let u = q.each d v.0 v.1 in (
    u.0,
    u.1,
    (
      u.2.0 ∙ v.2.0,
      u.2.1 ∙ v.2.1,
      u.2.2 ∙ v.2.2,
      omega (arith, v.2.3, u.2.3),
      u.2.4 ∙ v.2.4,
      u.2.5
          ∙ v.2.5,
      u.2.6 ∙ v.2.6,
      forgot-twice w v.0 u.0 u.2.6 u.2.3 v.2.7 u.2.7,
    ),
  );
}

-- ---- producers that stage, and that release

pub producer-may-stage : (w : OutletProducerState) → ProducerMayStage w w
producer-may-stage w = (refl, refl, refl, omega arith, refl, λ so. so, refl, refl)

pub producers-may-stage : (producers : List OutletProducerState) → ProducersMayStage producers producers
producers-may-stage producers = record { count = refl; each = λ d w at. (w, at, producer-may-stage w) }

pub stage-twice : (x y z : List OutletProducerState) → ProducersMayStage x y → ProducersMayStage y z
    → ProducersMayStage x z
stage-twice x y z p q = record {
  count = q.count ∙ p.count;
  each = λ d w at. let v = p.each d w at in let u = q.each d v.0 v.1 in (
    u.0,
    u.1,
    (
      u.2.0 ∙ v.2.0,
      u.2.1 ∙ v.2.1,
      u.2.2 ∙ v.2.2,
      omega (arith, v.2.3, u.2.3),
      u.2.4
          ∙ v.2.4,
      λ so. u.2.5 (v.2.5 so),
      u.2.6 ∙ v.2.6,
      u.2.7 ∙ v.2.7,
    ),
  );
}

pub producer-may-release : (w : OutletProducerState) → ProducerMayRelease w w
producer-may-release w = (refl, refl, refl, omega arith, refl, refl, refl)

pub producers-may-release : (producers : List OutletProducerState) → ProducersMayRelease producers producers
producers-may-release producers = record { count = refl; each = λ d w at. (w, at, producer-may-release w) }

pub release-twice : (x y z : List OutletProducerState) → ProducersMayRelease x y → ProducersMayRelease y z
    → ProducersMayRelease x z
release-twice x y z p q = record {
  count = q.count ∙ p.count;
  each = λ d w at. let v = p.each d w at in let u = q.each d v.0 v.1 in (
    u.0,
    u.1,
    (
      u.2.0 ∙ v.2.0,
      u.2.1 ∙ v.2.1,
      u.2.2 ∙ v.2.2,
      omega (arith, v.2.3, u.2.3),
      u.2.4 ∙ v.2.4,
      u.2.5 ∙ v.2.5,
      u.2.6 ∙ v.2.6,
    ),
  );
}

-- ---- loops over producers

-- what holds of the first so many and of the next holds of one more
pub so-far : {A : Type 0} (Q : A → Type 0) (xs : List A) (i : ℕ) (y : A) → i < length xs
    → ((d : ℕ) (w : A) → d < i → slice_get xs d ≡ Some w → Q w) → Q y
    → (d : ℕ) (w : A) → d < i + 1 → slice_get (slice_set xs i y) d ≡ Some w → Q w
so-far {A} Q xs i y inside before q d w lt at =
    elim (eqb_tells d i) [
      | inl e ↦ set-here Q xs i y w inside (subst (λ (j : ℕ). slice_get (slice_set xs i y) j ≡ Some w) e.1 at) q
      | inr e ↦ before d w (omega (arith, lt, e.1)) (sym (get-set-other xs i d y e.1) ∙ at)
    ]

-- one producer more looked, may stage, or may release
pub look-set : (old producers : List OutletProducerState) (i : ℕ) (x y : OutletProducerState)
    → ProducersLooked old producers → i < length producers
    → x ≡ get_or producers i x → ProducerLooked x y → ProducersLooked old (slice_set producers i y)
look-set old producers i x y so inside is look =
    producers-twice old producers (slice_set producers i y) so
    (record {
      count = length-set producers i y;
      each =
          each-set ProducerLooked producers i x y inside producer-stays
          (subst (λ (z : OutletProducerState). ProducerLooked z y) is look);
    })

pub stage-set : (old producers : List OutletProducerState) (i : ℕ) (x y : OutletProducerState)
    → ProducersMayStage old producers → i < length producers
    → x ≡ get_or producers i x → ProducerMayStage x y → ProducersMayStage old (slice_set producers i y)
stage-set old producers i x y so inside is stage =
    stage-twice old producers (slice_set producers i y) so
    (record {
      count = length-set producers i y;
      each =
          each-set ProducerMayStage producers i x y inside producer-may-stage
          (subst (λ (z : OutletProducerState). ProducerMayStage z y) is stage);
    })

pub release-set : (old producers : List OutletProducerState) (i : ℕ) (x y : OutletProducerState)
    → ProducersMayRelease old producers → i < length producers
    → x ≡ get_or producers i x → ProducerMayRelease x y → ProducersMayRelease old (slice_set producers i y)
release-set old producers i x y so inside is release =
    release-twice old producers (slice_set producers i y) so
    (record {
      count = length-set producers i y;
      each =
          each-set ProducerMayRelease producers i x y inside producer-may-release
          (subst (λ (z : OutletProducerState). ProducerMayRelease z y) is release);
    })
