use Rattle.std.proofs.Common.{◌≡◌, ◌≤◌, ◌+◌, List, length}
use Rattle.desk_steps.specs.declared.turned.Did.{Did}
use Rattle.desk_steps.specs.Turning.{Went, counted}
use Rattle.desk_steps.proofs.turning.round.Given as goal

-- the turns of the inlets so far
abbrev pub invariant-loop-place : goal.invariant-loop-place
invariant-loop-place g l = record {
  went : (dids : List Did) × Went (record { recorded = l.initial.recorded; side = l.initial.side }) dids
      (record { recorded = l.recorded; side = l.side })
      × (length dids ≡ l.place) × (counted dids ≡ l.turned);
  size : length l.side.consumers ≡ l.place-end;
  end : l.place-end ≡ length l.initial.side.consumers;
  few : l.turned.steps + l.turned.held + l.turned.refused ≤ l.place;
}
