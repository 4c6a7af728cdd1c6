-- What was taken is copied, with SOH for each bar.
use Rattle.std.proofs.Common.{◌≡◌, take}
use Rattle.std.specs.Prelude.{◌==◌, map, if◌then◌else◌}
use Rattle.script_lines.proofs.bars.soh_for_bars.Given as goal

abbrev pub invariant-loop-byte : goal.invariant-loop-byte
invariant-loop-byte l = l.bytes.items ≡ map (λ byte. if byte == 124 then 1 else byte) (take l.byte-index l.text)
