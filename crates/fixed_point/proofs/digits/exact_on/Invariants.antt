use Rattle.std.proofs.Common.{◌≡◌, ◌<◌, ◌+◌, ◌*◌, ◌^◌, take}
use Rattle.wire_bytes.specs.Digits.{number_of}
use Rattle.fixed_point.proofs.digits.exact_on.Given as goal

abbrev pub invariant-loop-byte : goal.invariant-loop-byte
invariant-loop-byte l = record {
  number : l.number ≡ l.start * 10 ^ l.byte-index + number_of (take l.byte-index l.digits);
  fits : l.number < 2 ^ 128;
}
