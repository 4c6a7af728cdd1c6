-- What was read in the turns so far.
use Rattle.std.proofs.Common.{[], List, length}
use Rattle.gate_journal.specs.Left.{batches_left, events_left}
use Rattle.gate_audit.specs.Read.{ReadOrder}
use Rattle.gate_audit.specs.Passes.{AreRead, told_whole}
use Rattle.gate_audit.proofs.Passing.{SoFar}
use Rattle.gate_audit.proofs.accounts.read_all.Given as goal

abbrev pub invariant-loop-readings : goal.invariant-loop-readings
invariant-loop-readings l = (os : List ReadOrder) → AreRead os [] l.fn.orders.items
    → SoFar (events_left l.ahead) (batches_left l.ahead) l.history
    (λ seen. AreRead os (told_whole seen) l.readings)

abbrev pub decreases-loop-readings : goal.decreases-loop-readings
decreases-loop-readings l = length (events_left l.ahead)
