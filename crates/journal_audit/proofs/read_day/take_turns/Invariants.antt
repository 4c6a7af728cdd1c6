-- The turns so far were taken.
use Rattle.std.proofs.Common.{length}
use Rattle.gate_audit.specs.gate_journal.Left.{batches_left, events_left}
use Rattle.journal_audit.proofs.Reading.{Onward}
use Rattle.journal_audit.proofs.read_day.take_turns.Given as goal

abbrev pub invariant-loop-event : goal.invariant-loop-event
invariant-loop-event l = Onward l.initial.audit l.part.events l.part.batches l.audit (events_left l.ahead)
    (batches_left l.ahead)

abbrev pub decreases-loop-event : goal.decreases-loop-event
decreases-loop-event l = length (events_left l.ahead)
