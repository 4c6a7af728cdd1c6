-- Where the items with a key may stand. A hint says no more than it must: it never hides an item.
use Rattle.std.specs.Prelude.{◌≡◌, ℕ, Bool, true, List, Option, Some, None, slice_get}
use Rattle.std.specs.Map.{lookup}
use Rattle.undo_index.specs.Undoing.{Undoable}
use Rattle.undo_index.specs.declared.hint.Hint.{Hint}

-- the keys with their hints; for how many keys more there is room
pub record Hints (K : Type 0) : Type 0 where
  pub entries : List (K × Hint)
  pub room : ℕ

-- what is noted of a key, by the equality of keys
abbrev pub hint_of : {K : Type 0} → (K → K → Bool) → Hints K → K → Option Hint
hint_of eq h k = lookup (eq k) h.entries

-- an item at this place isn't hidden: there is a hint, and if it leads to one place alone, then to this one
abbrev pub LeadsTo : Option Hint → ℕ → Type 0
LeadsTo None i = ⊥
LeadsTo (Some h) i = h.is_only ≡ true → h.place ≡ i

-- the hint leads to each item that passes
abbrev pub LedBy : {A : Type 0} → Option Hint → (A → Bool) → List A → Type 0
LedBy {A} hint test xs = (i : ℕ) (x : A) → slice_get xs i ≡ Some x → test x ≡ true → LeadsTo hint i

-- the hints lead to each item, by each of its keys
abbrev pub Covers : {K A : Type 0} → (K → K → Bool) → (K → A → Bool) → Hints K → List A → Type 0
Covers {K} eq has h xs = (k : K) → LedBy (hint_of eq h k) (has k) xs

-- the hints lead to each item of a list that can be put back, as it is and as it was settled
pub record Covered {K A : Type 0} (eq : K → K → Bool) (has : K → A → Bool) (h : Hints K)
    (u : Undoable A) : Type 0 where
  pub now : Covers eq has h u.now
  pub settled : Covers eq has h u.settled
