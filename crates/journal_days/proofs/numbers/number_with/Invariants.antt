-- The number so far and the records that are left give the number with all.
use Rattle.std.proofs.Common.{◌≡◌, ◌+◌, ◌%◌, ◌^◌, length}
use Rattle.journal_pages.specs.Seen.{records_ahead}
use Rattle.journal_days.proofs.numbers.number_with.Given as goal

abbrev pub invariant-loop-behind : goal.invariant-loop-behind
invariant-loop-behind l = (l.count + length (records_ahead l.ahead)) % 2 ^ 64
    ≡ (l.number + length (records_ahead l.records)) % 2 ^ 64

abbrev pub decreases-loop-behind : goal.decreases-loop-behind
decreases-loop-behind l = length (records_ahead l.ahead)
