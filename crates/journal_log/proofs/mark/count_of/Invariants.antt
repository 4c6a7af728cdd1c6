-- The count so far and the records that are left give the count of all.
use Rattle.std.proofs.Common.{◌≡◌, ◌+◌, ◌%◌, ◌^◌, length}
use Rattle.journal_pages.specs.Seen.{records_ahead}
use Rattle.journal_log.proofs.mark.count_of.Given as goal

abbrev pub invariant-loop-behind : goal.invariant-loop-behind
invariant-loop-behind l = (l.count + length (records_ahead l.rest)) % 2 ^ 64
    ≡ length (records_ahead l.fn.records) % 2 ^ 64

abbrev pub decreases-loop-behind : goal.decreases-loop-behind
decreases-loop-behind l = length (records_ahead l.rest)
