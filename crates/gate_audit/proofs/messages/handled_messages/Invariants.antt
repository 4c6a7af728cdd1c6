-- What was handled in the turns so far.
use Rattle.std.proofs.Common.{length}
use Rattle.gate_law.specs.Settings.{port_terms}
use Rattle.gate_journal.specs.Left.{batches_left, events_left}
use Rattle.gate_audit.specs.Called.{IsHandled}
use Rattle.gate_audit.proofs.Passing.{SoFar}
use Rattle.gate_audit.proofs.messages.handled_messages.Given as goal

abbrev pub invariant-loop-so_far : goal.invariant-loop-so_far
invariant-loop-so_far l = SoFar (events_left l.ahead) (batches_left l.ahead) l.history
    (λ seen. IsHandled (port_terms l.settings l.fn.port) l.fn.port seen l.so_far)

abbrev pub decreases-loop-so_far : goal.decreases-loop-so_far
decreases-loop-so_far l = length (events_left l.ahead)
