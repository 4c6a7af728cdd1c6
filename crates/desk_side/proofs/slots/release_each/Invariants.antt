use Rattle.std.proofs.Common.{◌≡◌, ◌<◌, ℕ, Some, length, slice_get}
use Rattle.desk_rings.specs.CoreEnds.{OutletProducerState, ProducersMayRelease}
use Rattle.desk_side.proofs.slots.release_each.Given as goal

-- the producers so far were released
abbrev pub invariant-loop-place : goal.invariant-loop-place
invariant-loop-place l = record {
  same : ProducersMayRelease l.initial.producers.items l.producers.items;
  end : l.place-end ≡ length l.initial.producers.items;
  all : (d : ℕ) (w : OutletProducerState) → d < l.place → slice_get l.producers.items d ≡ Some w → w.released ≡ w.sent;
}
