-- The count so far and the events that are left give the count of all.
use Rattle.std.proofs.Common.{◌≡◌, ◌+◌, ◌%◌, ◌^◌, length}
use Rattle.journal_records.specs.journal_days.Left.{records_left}
use Rattle.journal_records.specs.Days.{batches_in}
use Rattle.gate_journal.proofs.history.count_of.Given as goal

abbrev pub invariant-loop-record : goal.invariant-loop-record
invariant-loop-record l = (l.count + length (batches_in (records_left l.ahead))) % 2 ^ 64
    ≡ length (batches_in (records_left l.fn.records)) % 2 ^ 64

abbrev pub decreases-loop-record : goal.decreases-loop-record
decreases-loop-record l = length (records_left l.ahead)
