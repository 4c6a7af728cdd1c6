-- What stands in the bytes that are left is what stands in all.
use Rattle.std.proofs.Common.{◌≡◌, length}
use Rattle.journal_file.specs.Endings as spec
use Rattle.journal_file.proofs.reading.stands_somewhere.Given as goal

abbrev pub invariant-loop-rest : goal.invariant-loop-rest
invariant-loop-rest l = spec.stands_somewhere l.rest ≡ spec.stands_somewhere l.bytes

abbrev pub decreases-loop-rest : goal.decreases-loop-rest
decreases-loop-rest l = length l.rest
