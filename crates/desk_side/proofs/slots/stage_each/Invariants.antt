use Rattle.std.proofs.Common.{◌≡◌, ◌<◌, ℕ, Some, length, slice_get}
use Rattle.desk_rings.specs.CoreEnds.{IsStaging, OutletProducerState, ProducersMayStage}
use Rattle.desk_side.proofs.slots.stage_each.Given as goal

-- the producers so far stage
abbrev pub invariant-loop-place : goal.invariant-loop-place
invariant-loop-place l = record {
  same : ProducersMayStage l.initial.producers.items l.producers.items;
  end : l.place-end ≡ length l.initial.producers.items;
  stage : (d : ℕ) (w : OutletProducerState) → d < l.place → slice_get l.producers.items d ≡ Some w → IsStaging w;
}
