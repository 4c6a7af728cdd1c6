use Rattle.std.proofs.Common.{◌≡◌, bytes_eq, drop, length}
use Rattle.wire_bytes.proofs.same_text.is_same_text.Given as goal

abbrev pub invariant-loop-place : goal.invariant-loop-place
invariant-loop-place l = bytes_eq (drop l.place l.text) (drop l.place l.other) ≡ bytes_eq l.text l.other
