-- The records of the pages that are left are those of all.
use Rattle.std.proofs.Common.{◌≡◌, length}
use Rattle.journal_days.specs.Cut.{texts}
use Rattle.journal_days.specs.Day.{day_records}
use Rattle.journal_days.proofs.records.DayRecords.first_behind.Given as goal

abbrev pub invariant-loop-next : goal.invariant-loop-next
invariant-loop-next l = day_records l.ahead.version (texts l.ahead.pages.now)
    ≡ day_records l.self.version (texts l.self.pages.now)

abbrev pub decreases-loop-next : goal.decreases-loop-next
decreases-loop-next l = length l.ahead.pages.now
