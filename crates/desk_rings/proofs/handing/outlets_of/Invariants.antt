use Rattle.std.proofs.Common.{◌≡◌, ℕ, [], length, map, drop, slice_get, Some, ◌+◌}
use Rattle.std.specs.Prelude.{All}
use Rattle.desk_rings.specs.Rings.{Taking}
use Rattle.desk_rings.specs.Made.{IsFreshLists, outlet_name}
use Rattle.desk_rings.proofs.handing.outlets_of.Given as goal

abbrev pub invariant-loop-ring : goal.invariant-loop-ring
invariant-loop-ring g l = record {
  named : map outlet_name l.rings.items ≡ drop (length l.outlets.items) g.K.DeskName.outlets;
  fresh : All IsFreshLists l.rings.items;
  size : length l.outlets.items + length l.rings.items ≡ length g.K.DeskName.outlets;
  made : (k : ℕ) (x : Taking) → slice_get l.outlets.items k ≡ Some x → (x.at ≡ k) × (x.took ≡ []);
}

abbrev pub decreases-loop-ring : goal.decreases-loop-ring
decreases-loop-ring g l = length l.rings.items
