use Rattle.std.proofs.Common.{◌≡◌, take}
use Rattle.fix_fields.specs.Front.{sohs}
use Rattle.fix_fields.proofs.soh.soh_count_by_one.Given as goal

abbrev pub invariant-loop-byte : goal.invariant-loop-byte
invariant-loop-byte l = l.count ≡ sohs (take l.byte-index l.text)
