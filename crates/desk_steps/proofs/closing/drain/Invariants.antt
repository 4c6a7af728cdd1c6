use Rattle.std.proofs.Common.{◌≡◌, ◌+◌, List, Some, length, slice_get}
use Rattle.desk_side.specs.desk_rings.Rings.{NamedInlet, NamedOutlet}
use Rattle.desk_side.specs.desk_rings.CoreEnds.{InletConsumerState}
use Rattle.desk_steps.specs.Agreeing.{Agrees}
use Rattle.desk_steps.specs.Settling.{HistoryGoesOn, Shrinks, ProducersHold}
use Rattle.desk_steps.proofs.closing.drain.Given as goal

-- so many of the events that were known are stepped
abbrev pub invariant-loop : goal.invariant-loop
invariant-loop g l = record {
  agrees : (inlets : List NamedInlet) (outlets : List NamedOutlet)
      → Agrees inlets outlets (record { recorded = l.initial.recorded; side = l.initial.side })
      → Agrees inlets outlets (record { recorded = l.recorded; side = l.side });
  goes_on : HistoryGoesOn l.initial.recorded l.recorded;
  holds : ProducersHold l.initial.side.producers l.side.producers;
  shrinks : Shrinks l.initial.side.consumers l.side.consumers;
  knows : (a : InletConsumerState) → slice_get l.side.consumers l.place ≡ Some a → length a.known + l.counter ≡ l.left;
}
