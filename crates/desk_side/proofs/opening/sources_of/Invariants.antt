use Rattle.std.proofs.Common.{◌≡◌, ℕ, length, slice_get, Some}
use Rattle.gate_events.specs.declared.source.Source.{Source}
use Rattle.desk_side.specs.Places.{source_at}
use Rattle.desk_side.proofs.opening.sources_of.Given as goal

-- those of the places so far
abbrev pub invariant-loop-place : goal.invariant-loop-place
invariant-loop-place l = record {
  count : length l.sources.items ≡ l.place;
  each : (k : ℕ) (source : Source) → slice_get l.sources.items k ≡ Some source → source ≡ source_at l.clients l.ports k;
}
