-- What was taken is appended.
use Rattle.std.proofs.Common.{◌≡◌, take}
use Rattle.std.specs.Prelude.{map}
use Rattle.journal_days.specs.Cut.{with_records}
use Rattle.journal_records.specs.Parts.{report_record}
use Rattle.journal_records.proofs.batches.append_reports.Given as goal

abbrev pub invariant-loop-report : goal.invariant-loop-report
invariant-loop-report l = l.out ≡ with_records l.initial.out
    (map (report_record l.fn.at l.fn.client) (take l.report-index l.reports))
