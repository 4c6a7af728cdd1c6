use Rattle.std.proofs.Common.{◌≡◌, ◌+◌, ◌*◌, ◌^◌, true, take}
use Rattle.std.specs.List.{list_all}
use Rattle.std.specs.Char.{is_ascii_digit}
use Rattle.wire_bytes.specs.Digits.{number_of}
use Rattle.fixed_point.specs.Steps.{capped}
use Rattle.fixed_point.proofs.digits.read_on.Given as goal

abbrev pub invariant-loop-byte : goal.invariant-loop-byte
invariant-loop-byte l = record {
  digits : list_all is_ascii_digit (take l.byte-index l.digits) ≡ true;
  number : l.number ≡ capped (l.start * 10 ^ l.byte-index + number_of (take l.byte-index l.digits));
}
