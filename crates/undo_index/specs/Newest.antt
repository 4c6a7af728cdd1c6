-- The newest item of a list that passes a test. The list has the oldest first.
use Rattle.std.specs.Prelude.{◌≡◌, ◌<◌, ◌-◌, ℕ, Bool, true, List, length, reverse, Some, slice_get}
use Rattle.std.specs.List.{find, position_or_len}

-- what a place is to the newest that passes
pub record IsNewest {A : Type 0} (test : A → Bool) (xs : List A) (place : ℕ) : Type 0 where
  pub inside : place < length xs
  pub newest : find test (reverse xs) ≡ slice_get xs place
  pub at_end : position_or_len test (reverse xs) ≡ length xs - 1 - place

-- no item passes but at this place
abbrev pub OnlyAt : {A : Type 0} → ℕ → (A → Bool) → List A → Type 0
OnlyAt {A} place test xs = (i : ℕ) (x : A) → slice_get xs i ≡ Some x → test x ≡ true → place ≡ i
