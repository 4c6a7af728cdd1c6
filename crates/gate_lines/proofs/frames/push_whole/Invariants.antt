-- What was taken is added, with a bar for each SOH.
use Rattle.std.proofs.Common.{◌≡◌, ◌++◌, take}
use Rattle.std.specs.Prelude.{map}
use Rattle.gate_lines.specs.Frames.{barred}
use Rattle.gate_lines.proofs.frames.push_whole.Given as goal

abbrev pub invariant-loop-byte : goal.invariant-loop-byte
invariant-loop-byte l = l.text.items ≡ l.initial.text.items ++ map barred (take l.byte-index l.bytes)
