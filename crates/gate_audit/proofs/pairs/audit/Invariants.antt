-- The audit of the turns so far.
use Rattle.std.proofs.Common.{length}
use Rattle.gate_journal.specs.Left.{batches_left, events_left}
use Rattle.gate_audit.specs.Auditing.{IsAuditing}
use Rattle.gate_audit.proofs.Passing.{SoFar}
use Rattle.gate_audit.proofs.pairs.audit.Given as goal

abbrev pub invariant-loop-audit : goal.invariant-loop-audit
invariant-loop-audit l = SoFar (events_left l.ahead) (batches_left l.ahead) l.history
    (λ seen. IsAuditing l.settings seen l.audit)

abbrev pub decreases-loop-audit : goal.decreases-loop-audit
decreases-loop-audit l = length (events_left l.ahead)
