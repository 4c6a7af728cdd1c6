use Rattle.std.proofs.Common.{◌≡◌, ◌<◌, ℕ, Some, length, slice_get}
use Rattle.desk_rings.specs.CoreEnds.{KnowsRoom, OutletProducerState, ProducersLooked}
use Rattle.desk_side.proofs.slots.least_room.Given as goal

-- the producers so far have room
abbrev pub invariant-loop-place : goal.invariant-loop-place
invariant-loop-place l = record {
  looked : ProducersLooked l.initial.producers.items l.producers.items;
  end : l.place-end ≡ length l.initial.producers.items;
  room : (d : ℕ) (w : OutletProducerState) → d < l.place → slice_get l.producers.items d ≡ Some w → KnowsRoom l.least w;
}
