use Rattle.std.proofs.Common.{◌≡◌, ℕ, ◌<◌, get_or}
use Rattle.outstanding.proofs.chains.empty.Given as goal

abbrev pub invariant-loop-reach : goal.invariant-loop-reach
invariant-loop-reach l = (k : ℕ) → k < l.reach-index → get_or l.reach-items k 0 ≡ 0
