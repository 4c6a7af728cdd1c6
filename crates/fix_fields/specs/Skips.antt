-- Where a search for a tag begins.
use Rattle.std.specs.Prelude.{◌≡◌, ◌≤◌, ◌<◌, ◌%◌, ◌==◌, ℕ, List, Bool, true, not, length, take, slice_index}
use Rattle.std.specs.List.{list_all}
use Rattle.fix_fields.specs.declared.span.Span.{Span}

-- the tag leaves another remainder
abbrev pub is_elsewhere : ℕ → Span → Bool
is_elsewhere remainder span = not (span.tag % 64 == remainder)

-- none of so many fields in front has a tag that leaves this remainder
pub record IsSkip (spans : List Span) (remainder count : ℕ) : Type 0 where
  pub within : count ≤ length spans
  pub elsewhere : list_all (is_elsewhere remainder) (take count spans) ≡ true

-- so many fields in front may be passed over, by the remainder of the tag that is looked for
abbrev pub AreSkips : List ℕ → List Span → Type 0
AreSkips skips spans = (remainder : ℕ) → remainder < 64 → IsSkip spans remainder (slice_index skips remainder)
