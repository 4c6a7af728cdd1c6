use Rattle.std.proofs.Common.{◌≡◌, ◌≤◌, ◌<◌, ◌+◌, ◌-◌, length, drop, take, true}
use Rattle.std.specs.Char.{is_ascii_digit}
use Rattle.std.specs.List.{list_all}
use Rattle.wire_bytes.specs.Digits.{number_of}
use Rattle.fix_fields.specs.Front.{digits_from}
use Rattle.fix_fields.proofs.front.digits_at.Given as goal

abbrev pub invariant-loop-at : goal.invariant-loop-at
invariant-loop-at l = record {
  ordered : l.at ≤ l.end;
  within : l.end < length l.text;
  short : l.end ≤ l.at + 9;
  ahead : l.at + digits_from l.text l.at ≡ l.end + digits_from l.text l.end;
  digits : list_all is_ascii_digit (take (l.end - l.at) (drop l.at l.text)) ≡ true;
  number : l.tag ≡ number_of (take (l.end - l.at) (drop l.at l.text));
}

abbrev pub decreases-loop-at : goal.decreases-loop-at
decreases-loop-at l = length l.text - l.end
