-- The records that are left, behind those that are written, are all; and all can be written, where those left can.
use Rattle.std.proofs.Common.{◌≡◌, [], length}
use Rattle.journal_pages.specs.declared.version.Version.TheVariants.{One}
use Rattle.journal_pages.specs.Ordered.{AreWritable}
use Rattle.journal_days.specs.Cut.{texts, with_records}
use Rattle.journal_days.specs.Day.{day_records}
use Rattle.journal_days.specs.Left.{records_left}
use Rattle.journal_days.proofs.pages.DayPages.rewritten.Given as goal

abbrev pub invariant-loop-record : goal.invariant-loop-record
invariant-loop-record l = record {
  written : with_records l.written (records_left l.ahead) ≡ with_records [] (day_records One (texts l.fn.pages));
  writable : AreWritable (records_left l.ahead) → AreWritable (day_records One (texts l.fn.pages));
}

abbrev pub decreases-loop-record : goal.decreases-loop-record
decreases-loop-record l = length (records_left l.ahead)
