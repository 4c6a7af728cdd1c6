use Rattle.std.proofs.Common.{◌≡◌, reverse, take}
use Rattle.order_law.specs.Reading.{reading}
use Rattle.order_accounts.specs.Held.{IsHeld, StaysHeld}
use Rattle.order_accounts.proofs.reading.reading_of.Given as goal

abbrev pub invariant-loop-report : goal.invariant-loop-report
invariant-loop-report l = record {
  reading : l.reading ≡ reading l.order (reverse (take l.report-index l.reports));
  held : IsHeld l.reading;
  stays : StaysHeld l.order (reverse (take l.report-index l.reports));
}
