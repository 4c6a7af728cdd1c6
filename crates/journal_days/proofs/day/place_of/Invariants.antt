-- What is wrong from here on is what is wrong with all, and the same place is behind.
use Rattle.std.proofs.Common.{◌≡◌, length}
use Rattle.journal_pages.specs.Ordered.{order_fault, place_behind}
use Rattle.journal_pages.specs.Seen.{records_ahead}
use Rattle.journal_days.proofs.day.place_of.Given as goal

abbrev pub invariant-loop-record : goal.invariant-loop-record
invariant-loop-record l = record {
  fault : order_fault l.at (records_ahead l.ahead) ≡ order_fault l.fn.place (records_ahead l.records);
  behind : place_behind l.at (records_ahead l.ahead) ≡ place_behind l.fn.place (records_ahead l.records);
}

abbrev pub decreases-loop-record : goal.decreases-loop-record
decreases-loop-record l = length (records_ahead l.ahead)
