-- The rows of the turns so far are written.
use Rattle.std.proofs.Common.{length}
use Rattle.gate_journal.specs.Left.{batches_left, events_left}
use Rattle.day_export.proofs.Turns.{Writes}
use Rattle.day_export.proofs.day.write_turns.Given as goal

abbrev pub invariant-loop-event : goal.invariant-loop-event
invariant-loop-event g l = Writes (g.W.Write.contents l.initial.output) (g.W.Write.contents l.output) l.format
    l.part.events l.part.batches (events_left l.ahead) (batches_left l.ahead)

abbrev pub decreases-loop-event : goal.decreases-loop-event
decreases-loop-event g l = length (events_left l.ahead)
