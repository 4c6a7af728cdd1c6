use Rattle.std.proofs.Common.{◌≤◌, ◌<◌, ℕ, slice_index}
use Rattle.fix_fields.proofs.Skipping.{SkipsFrom}
use Rattle.fix_fields.proofs.skips.skips_among.Given as goal

abbrev pub invariant-loop-at : goal.invariant-loop-at
invariant-loop-at l = record {
  within : l.at ≤ l.count;
  skips : (remainder : ℕ) → remainder < 64 → SkipsFrom l.at l.spans remainder (slice_index l.skips remainder);
}

abbrev pub decreases-loop-at : goal.decreases-loop-at
decreases-loop-at l = l.at
