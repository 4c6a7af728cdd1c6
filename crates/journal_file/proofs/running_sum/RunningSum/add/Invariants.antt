-- The bytes so far and those that are left are all of them, and fewer than 2^64.
use Rattle.std.proofs.Common.{◌≡◌, ◌<◌, ◌+◌, ◌^◌, ◌++◌, length}
use Rattle.journal_file.proofs.running_sum.RunningSum.add.Given as goal

abbrev pub invariant-loop-rest : goal.invariant-loop-rest
invariant-loop-rest l = record {
  all : l.self ++ l.rest ≡ l.fn.self ++ l.bytes;
  few : length l.self + length l.rest < 2 ^ 64;
}

abbrev pub decreases-loop-rest : goal.decreases-loop-rest
decreases-loop-rest l = length l.rest
