-- What was taken is short.
use Rattle.std.proofs.Common.{take}
use Rattle.journal_records.specs.Whole.{Each, IsShortReport}
use Rattle.journal_records.proofs.fitting.reports_fit.Given as goal

abbrev pub invariant-loop-report : goal.invariant-loop-report
invariant-loop-report l = Each IsShortReport (take l.report-index l.reports)
