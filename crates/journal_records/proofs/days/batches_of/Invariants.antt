-- The batches so far and those of the records that are left are all.
use Rattle.std.proofs.Common.{◌≡◌, ◌++◌, length}
use Rattle.std.specs.Prelude.{map}
use Rattle.gate_events.specs.Seen.{batch_seen}
use Rattle.journal_days.specs.Left.{records_left}
use Rattle.journal_records.specs.Days.{batches_in}
use Rattle.journal_records.proofs.days.batches_of.Given as goal

abbrev pub invariant-loop-record : goal.invariant-loop-record
invariant-loop-record l = map batch_seen l.batches.items ++ batches_in (records_left l.ahead)
    ≡ batches_in (records_left l.records)

abbrev pub decreases-loop-record : goal.decreases-loop-record
decreases-loop-record l = length (records_left l.ahead)
