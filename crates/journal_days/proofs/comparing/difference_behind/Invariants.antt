-- What was read so far is the same on both sides.
use Rattle.std.proofs.Common.{length}
use Rattle.journal_days.specs.Left.{records_left}
use Rattle.journal_days.proofs.Sides.{SameSoFar}
use Rattle.journal_days.proofs.comparing.difference_behind.Given as goal

abbrev pub invariant-loop-first : goal.invariant-loop-first
invariant-loop-first l = SameSoFar l.fn.before l.batches (records_left l.fn.records) (records_left l.fn.others)
    (records_left l.rest) (records_left l.left)

abbrev pub decreases-loop-first : goal.decreases-loop-first
decreases-loop-first l = length (records_left l.rest)
