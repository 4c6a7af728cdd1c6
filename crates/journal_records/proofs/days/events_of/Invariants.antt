-- The events so far and those of the records that are left are all.
use Rattle.std.proofs.Common.{◌≡◌, ◌++◌, length}
use Rattle.journal_days.specs.Left.{records_left}
use Rattle.journal_records.specs.Days.{events_in}
use Rattle.journal_records.proofs.days.events_of.Given as goal

abbrev pub invariant-loop-record : goal.invariant-loop-record
invariant-loop-record l = l.events.items ++ events_in (records_left l.ahead) ≡ events_in (records_left l.records)

abbrev pub decreases-loop-record : goal.decreases-loop-record
decreases-loop-record l = length (records_left l.ahead)
