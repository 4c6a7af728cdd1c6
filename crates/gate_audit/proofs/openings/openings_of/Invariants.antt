-- The openings of the turns so far.
use Rattle.std.proofs.Common.{length}
use Rattle.gate_journal.specs.Left.{batches_left, events_left}
use Rattle.gate_audit.specs.Counted.{IsOf}
use Rattle.gate_audit.specs.Passes.{told_whole}
use Rattle.gate_audit.proofs.Passing.{SoFar}
use Rattle.gate_audit.proofs.openings.openings_of.Given as goal

abbrev pub invariant-loop-openings : goal.invariant-loop-openings
invariant-loop-openings l = SoFar (events_left l.ahead) (batches_left l.ahead) l.history
    (λ seen. IsOf (told_whole seen) l.openings)

abbrev pub decreases-loop-openings : goal.decreases-loop-openings
decreases-loop-openings l = length (events_left l.ahead)
