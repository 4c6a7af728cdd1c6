use Rattle.std.proofs.Common.{◌≡◌, ◌++◌, take}
use Rattle.std.specs.List.{flat_map}
use Rattle.day_export.specs.Rows.{fields_row}
use Rattle.day_export.proofs.turn.push_reports.Given as goal

-- those of the reports so far
abbrev pub invariant-loop-report : goal.invariant-loop-report
invariant-loop-report l =
    l.text.items ≡ l.initial.text.items ++ flat_map (fields_row l.format l.head) (take l.report-index l.reports)
