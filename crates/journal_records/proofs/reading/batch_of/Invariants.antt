-- What was said so far and what is said further on are what all say.
use Rattle.std.proofs.Common.{◌≡◌, length}
use Rattle.journal_days.specs.Left.{records_left}
use Rattle.journal_records.specs.Reading.{behind_parts, nothing_said, parts_said}
use Rattle.journal_records.specs.PartsSeen.{parts_seen}
use Rattle.journal_records.proofs.reading.batch_of.Given as goal

abbrev pub invariant-loop-record : goal.invariant-loop-record
invariant-loop-record l = record {
  said : parts_said (parts_seen l.parts) (records_left l.ahead) ≡ parts_said nothing_said (records_left l.records);
  behind : behind_parts (records_left l.ahead) ≡ behind_parts (records_left l.records);
}

abbrev pub decreases-loop-record : goal.decreases-loop-record
decreases-loop-record l = length (records_left l.ahead)
