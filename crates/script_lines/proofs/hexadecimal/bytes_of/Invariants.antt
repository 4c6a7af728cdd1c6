-- What was taken and what is left are the bytes of all, and all are digits where the rest is.
use Rattle.std.proofs.Common.{◌≡◌, ◌++◌, length}
use Rattle.script_lines.specs.Hexadecimal.{are_bytes, bytes_in}
use Rattle.script_lines.proofs.hexadecimal.bytes_of.Given as goal

abbrev pub invariant-loop-rest : goal.invariant-loop-rest
invariant-loop-rest l = record {
  said : l.bytes.items ++ bytes_in l.rest ≡ bytes_in l.digits;
  digits : are_bytes l.rest
      ≡ are_bytes l.digits;
}

abbrev pub decreases-loop-rest : goal.decreases-loop-rest
decreases-loop-rest l = length l.rest
