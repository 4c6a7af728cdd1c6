use Rattle.std.proofs.Common.{ℕ, ◌≤◌}
use Rattle.std.specs.Prelude.{vec_len}
use Rattle.outstanding.specs.Chaining.{Reaches}
use Rattle.outstanding.proofs.chains.Chains.past_settled.Given as goal

-- what was reached first is so from here
abbrev pub invariant-loop-reach : goal.invariant-loop-reach
invariant-loop-reach l =
    (l.reach ≤ l.from)
    × ((b k : ℕ) → Reaches (vec_len l.self.heads) l.messages b l.from k
    → Reaches (vec_len l.self.heads) l.messages b l.reach k)

abbrev pub decreases-loop-reach : goal.decreases-loop-reach
decreases-loop-reach l = l.reach
