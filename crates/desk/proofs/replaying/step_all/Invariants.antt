use Rattle.std.proofs.Common.{◌≡◌, length}
use Rattle.desk_steps.specs.Settling.{HistoryGoesOn}
use Rattle.gate_journal.specs.Left.{events_left}
use Rattle.desk.proofs.replaying.step_all.Given as goal

-- the history goes on, and there are as many inlets
abbrev pub invariant-loop-event : goal.invariant-loop-event
invariant-loop-event g l = record {
  on : HistoryGoesOn l.initial.desk.recorded l.desk.recorded;
  count : length l.inlets.items ≡ length l.initial.inlets.items;
}

abbrev pub decreases-loop-event : goal.decreases-loop-event
decreases-loop-event g l = length (events_left l.ahead)
