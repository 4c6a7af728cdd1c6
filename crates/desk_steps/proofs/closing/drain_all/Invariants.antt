use Rattle.std.proofs.Common.{◌≡◌, ◌<◌, ℕ, List, Some, slice_get}
use Rattle.desk_side.specs.desk_rings.Rings.{Done, NamedInlet, NamedOutlet}
use Rattle.desk_side.specs.desk_rings.Ends.{inlet_of}
use Rattle.desk_steps.specs.Agreeing.{Agrees}
use Rattle.desk_steps.specs.Settling.{HistoryGoesOn, KnowsNone, Shrinks, ProducersHold}
use Rattle.desk_steps.proofs.closing.drain_all.Given as goal

-- the rings of the inlets so far are empty
abbrev pub invariant-loop-i : goal.invariant-loop-i
invariant-loop-i g l = record {
  agrees : (inlets : List NamedInlet) (outlets : List NamedOutlet)
      → Agrees inlets outlets (record { recorded = l.initial.recorded; side = l.initial.side })
      → Agrees inlets outlets (record { recorded = l.recorded; side = l.side });
  goes_on : HistoryGoesOn l.initial.recorded l.recorded;
  holds : ProducersHold l.initial.side.producers l.side.producers;
  shrinks : Shrinks l.initial.side.consumers l.side.consumers;
  none : (i : ℕ) (f : Done) (k : ℕ) → i < l.i → slice_get l.finished.items i ≡ Some f → inlet_of f ≡ Some k
      → KnowsNone k l.side.consumers;
}
