use Rattle.std.proofs.Common.{◌≡◌, ℕ, [], length, map, drop, slice_get, Some, ◌+◌}
use Rattle.std.specs.Prelude.{All}
use Rattle.desk_rings.specs.Rings.{Putting}
use Rattle.desk_rings.specs.Made.{IsFreshEvents, inlet_name}
use Rattle.desk_rings.proofs.handing.inlets_of.Given as goal

abbrev pub invariant-loop-ring : goal.invariant-loop-ring
invariant-loop-ring g l = record {
  named : map inlet_name l.rings.items ≡ drop (length l.inlets.items) g.K.DeskName.inlets;
  fresh : All IsFreshEvents l.rings.items;
  size : length l.inlets.items + length l.rings.items ≡ length g.K.DeskName.inlets;
  made : (k : ℕ) (x : Putting) → slice_get l.inlets.items k ≡ Some x → (x.at ≡ k) × (x.put ≡ []) × (x.free ≡ 1_024);
}

abbrev pub decreases-loop-ring : goal.decreases-loop-ring
decreases-loop-ring g l = length l.rings.items
