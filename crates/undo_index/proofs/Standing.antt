-- Hints lead to the items of a list after one item more, after a change of one, after a settle and after an undo.
use Rattle.std.proofs.Common.{◌≡◌, ℕ, zero, suc, Bool, true, List, [], ◌∷◌, ◌++◌, length, refl, sym, ap, ◌∙◌, subst}
use Rattle.std.proofs.Common.{slice_get, slice_set, ◌⊎◌, inl, inr}
use Rattle.std.specs.Prelude.{Option, Some, None}
use Rattle.std.specs.Map.{lookup}
use Rattle.undo_index.specs.Undoing.{Undoable}
use Rattle.undo_index.specs.declared.hint.Hint.{Hint}
use Rattle.undo_index.specs.Hints.{Covered, Covers, Hints, LeadsTo, LedBy, hint_of}

same-some : {A : Type 0} (b c : A) → ◌≡◌ {A = Option A} (Some b) (Some c) → b ≡ c
same-some b c e = cc

get-pushed : {A : Type 0} (xs : List A) (a : A) (i : ℕ) (b : A) → slice_get (xs ++ a ∷ []) i ≡ Some b
    → (slice_get xs i ≡ Some b) ⊎ ((length xs ≡ i) × (a ≡ b))
get-pushed [] a zero b e = inr (refl, same-some a b e)
get-pushed [] a (suc i) b e = inl e
get-pushed (x ∷ xs) a zero b e = inl e
get-pushed {A = A} (x ∷ xs) a (suc i) b e = by_place (get-pushed xs a i b e)
  where
    by_place : (slice_get xs i ≡ Some b) ⊎ ((length xs ≡ i) × (a ≡ b))
        → (slice_get xs i ≡ Some b) ⊎ ((suc (length xs) ≡ suc i) × (a ≡ b))
    by_place (inl at) = inl at
    by_place (inr (l, same)) = inr (ap suc l, same)

get-changed : {A : Type 0} (xs : List A) (p : ℕ) (a : A) (i : ℕ) (b : A) → slice_get (slice_set xs p a) i ≡ Some b
    → (slice_get xs i ≡ Some b) ⊎ ((p ≡ i) × (a ≡ b))
get-changed [] p a i b e = inl e
get-changed (x ∷ xs) zero a zero b e = inr (refl, same-some a b e)
get-changed (x ∷ xs) zero a (suc i) b e = inl e
get-changed (x ∷ xs) (suc p) a zero b e = inl e
get-changed {A = A} (x ∷ xs) (suc p) a (suc i) b e = by_place (get-changed xs p a i b e)
  where
    by_place : (slice_get xs i ≡ Some b) ⊎ ((p ≡ i) × (a ≡ b)) → (slice_get xs i ≡ Some b) ⊎ ((suc p ≡ suc i) × (a ≡ b))
    by_place (inl at) = inl at
    by_place (inr (l, same)) = inr (ap suc l, same)

-- ---- an item whose keys all lead to its place

module _ {K A : Type 0} (eq : K → K → Bool) (has : K → A → Bool) (h : Hints K) (old new : Undoable A) (a : A)
    (place : ℕ)
    (leads : (k : K) → has k a ≡ true → LeadsTo (hint_of eq h k) place) (settled : new.settled ≡ old.settled) (covered : Covered eq has h old) where
  -- it is pushed
  pub covered-pushed : length old.now ≡ place → new.now ≡ old.now ++ a ∷ [] → Covered eq has h new
  covered-pushed there e = record {
    now = λ k i b at t. by_place k i b t (get-pushed old.now a i b (sym (ap (λ xs. slice_get xs i) e) ∙ at));
    settled = subst (Covers eq has h) (sym settled) covered.settled;
  }
    where
      by_place : (k : K) (i : ℕ) (b : A) → has k b ≡ true
          → (slice_get old.now i ≡ Some b) ⊎ ((length old.now ≡ i) × (a ≡ b)) → LeadsTo (hint_of eq h k) i
      by_place k i b t (inl at) = covered.now k i b at t
      by_place k i b t (inr (l, same)) = subst (LeadsTo (hint_of eq h k)) (sym there ∙ l)
          (leads k (ap (has k) same ∙ t))

  -- it stands in another's place
  pub covered-changed : new.now ≡ slice_set old.now place a → Covered eq has h new
  covered-changed e = record {
    now = λ k i b at t. by_place k i b t (get-changed old.now place a i b (sym (ap (λ xs. slice_get xs i) e) ∙ at));
    settled = subst (Covers eq has h) (sym settled) covered.settled;
  }
    where
      by_place : (k : K) (i : ℕ) (b : A) → has k b ≡ true → (slice_get old.now i ≡ Some b) ⊎ ((place ≡ i) × (a ≡ b))
          → LeadsTo (hint_of eq h k) i
      by_place k i b t (inl at) = covered.now k i b at t
      by_place k i b t (inr (l, same)) = subst (LeadsTo (hint_of eq h k)) l (leads k (ap (has k) same ∙ t))

-- ---- the same items, the same hints

-- lists that were there
pub covered-lists : {K A : Type 0} (eq : K → K → Bool) (has : K → A → Bool) (h : Hints K) (old new : Undoable A)
    → Covers eq has h old.now → Covers eq has h old.settled
    → (new.now ≡ old.now) ⊎ (new.now ≡ old.settled) → (new.settled ≡ old.now) ⊎ (new.settled ≡ old.settled)
    → Covered eq has h new
covered-lists {A = A} eq has h old new by_now by_settled now settled =
    record { now = one_of new.now now; settled = one_of new.settled settled }
  where
    one_of : (xs : List A) → (xs ≡ old.now) ⊎ (xs ≡ old.settled) → Covers eq has h xs
    one_of xs (inl e) = subst (Covers eq has h) (sym e) by_now
    one_of xs (inr e) = subst (Covers eq has h) (sym e) by_settled

-- lists and entries that stay
pub covered-same : {K A : Type 0} (eq : K → K → Bool) (has : K → A → Bool) (g h : Hints K) (old new : Undoable A)
    → h.entries ≡ g.entries → new.now ≡ old.now → new.settled ≡ old.settled
    → Covered eq has g old → Covered eq has h new
covered-same {K = K} eq has g h old new entries now settled covered =
    record {
      now = same old.now new.now now covered.now;
      settled =
          same old.settled new.settled settled covered.settled;
    }
  where
    same : {A : Type 0} {has : K → A → Bool} (xs ys : List A) → ys ≡ xs → Covers eq has g xs → Covers eq has h ys
    same {has = has} xs ys e covers = subst (Covers eq has h) (sym e)
        (λ k i b at t. subst (λ (es : List (K × Hint)). LeadsTo (lookup (eq k) es) i) (sym entries) (covers k i b at t))

-- settled, and put back
pub covered-settled : {K A : Type 0} (eq : K → K → Bool) (has : K → A → Bool) (h : Hints K) (old new : Undoable A)
    → new.now ≡ old.now → new.settled ≡ old.now → Covered eq has h old → Covered eq has h new
covered-settled eq has h old new now settled covered =
    covered-lists eq has h old new covered.now covered.settled (inl now) (inl settled)

pub covered-undone : {K A : Type 0} (eq : K → K → Bool) (has : K → A → Bool) (h : Hints K) (old new : Undoable A)
    → new.now ≡ old.settled → new.settled ≡ old.settled → Covered eq has h old → Covered eq has h new
covered-undone eq has h old new now settled covered =
    covered-lists eq has h old new covered.now covered.settled (inr now) (inr settled)

-- no items
pub covered-none : {K A : Type 0} (eq : K → K → Bool) (has : K → A → Bool) (h : Hints K) (u : Undoable A) → u.now ≡ []
    → u.settled ≡ [] → Covered eq has h u
covered-none {A = A} eq has h u now settled =
    record { now = subst (Covers eq has h) (sym now) none; settled = subst (Covers eq has h) (sym settled) none }
  where
    none : Covers eq has h []
    none k i b at t = let f : ◌≡◌ {A = Option A} None (Some b) = at in absurd (cc)

-- ---- what a look-up asks

pub led-by : {K A : Type 0} (eq : K → K → Bool) (has : K → A → Bool) (h : Hints K) (xs : List A) (k : K)
    (test : A → Bool) → Covers eq has h xs → ((a : A) → test a ≡ true → has k a ≡ true)
    → LedBy (hint_of eq h k) test xs
led-by eq has h xs k test covers has_it i a at t = covers k i a at (has_it a t)
