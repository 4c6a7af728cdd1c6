-- Records that are still to be lent, as the definitions see them.
use Rattle.std.specs.Prelude.{List, ◌++◌}
use Rattle.journal_pages.specs.Record.{Record}
use Rattle.journal_pages.specs.Seen.{records_ahead}
use Rattle.journal_days.specs.declared.records.DayRecords.{DayRecords}
use Rattle.journal_days.specs.Cut.{texts}
use Rattle.journal_days.specs.Day.{day_records}

abbrev pub records_left : DayRecords → List Record
records_left d = records_ahead d.here ++ day_records d.version (texts d.pages.now)
