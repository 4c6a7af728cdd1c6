-- The bytes that are left, behind the sum so far, give the sum of all.
use Rattle.std.proofs.Common.{◌≡◌, length}
use Rattle.journal_file.specs.Sum as spec
use Rattle.journal_file.proofs.sum.sum_of.Given as goal

abbrev pub invariant-loop-rest : goal.invariant-loop-rest
invariant-loop-rest l = spec.sum_from l.sum l.rest ≡ spec.sum_of l.bytes

abbrev pub decreases-loop-rest : goal.decreases-loop-rest
decreases-loop-rest l = length l.rest
