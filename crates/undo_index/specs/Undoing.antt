-- A list that can be put back to how it stood when it was last settled.
use Rattle.std.specs.Prelude.{◌≡◌, ℕ, List, [], ◌∷◌, Some, take, reverse, slice_get, slice_set}
use Rattle.undo_index.specs.declared.list.Was.{Was}

-- the list now, and as it was settled; for how many items and for how many changes more there is room
pub record Undoable (T : Type 0) : Type 0 where
  pub now : List T
  pub settled : List T
  pub pushes : ℕ
  pub changes : ℕ

-- with what was changed put back, the newest change first
abbrev pub restored : {T : Type 0} → List (Was T) → List T → List T
restored [] items = items
restored (w ∷ older) items = restored older (slice_set items w.place w.item)

-- As many items as there were; what was changed of them is put back. A change behind these is none of them.
abbrev pub settled_of : {T : Type 0} → ℕ → List (Was T) → List T → List T
settled_of count changed items = restored (reverse changed) (take count items)

-- what stands in the first list stands so in the second
abbrev pub IsWithin : {T : Type 0} → List T → List T → Type 0
IsWithin {T} xs ys = (i : ℕ) (x : T) → slice_get xs i ≡ Some x → slice_get ys i ≡ Some x
