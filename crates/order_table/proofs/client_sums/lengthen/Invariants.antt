use Rattle.std.proofs.Common.{◌≡◌, ◌≤◌, ℕ, length}
use Rattle.order_table.specs.Sums.{sums_at}
use Rattle.order_table.proofs.client_sums.lengthen.Given as goal

abbrev pub invariant-loop-place : goal.invariant-loop-place
invariant-loop-place l = record {
  as_long : l._place ≤ length l.sums.now;
  longer : length l.fn.sums.now ≤ length l.sums.now;
  same : (other : ℕ) → sums_at l.sums.now other ≡ sums_at l.fn.sums.now other;
  settled : l.sums.settled ≡ l.fn.sums.settled;
}
