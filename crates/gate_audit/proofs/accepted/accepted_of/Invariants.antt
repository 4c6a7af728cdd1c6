-- The orders that the turns so far opened.
use Rattle.std.proofs.Common.{length}
use Rattle.gate_journal.specs.Left.{batches_left, events_left}
use Rattle.gate_audit.specs.Accepted.{AreAccepted}
use Rattle.gate_audit.specs.Passes.{told_whole}
use Rattle.gate_audit.proofs.Passing.{SoFar}
use Rattle.gate_audit.proofs.accepted.accepted_of.Given as goal

abbrev pub invariant-loop-accepted : goal.invariant-loop-accepted
invariant-loop-accepted l = SoFar (events_left l.ahead) (batches_left l.ahead) l.history
    (λ seen. AreAccepted (told_whole seen) l.accepted)

abbrev pub decreases-loop-accepted : goal.decreases-loop-accepted
decreases-loop-accepted l = length (events_left l.ahead)
