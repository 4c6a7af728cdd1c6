use Rattle.std.proofs.Common.{◌≡◌, length}
use Rattle.market_sim.specs.Numbers.{behind_spaces}
use Rattle.market_sim.proofs.numbers.behind_spaces.Given as goal

abbrev pub invariant-loop-rest : goal.invariant-loop-rest
invariant-loop-rest l = behind_spaces l.rest ≡ behind_spaces l.field

abbrev pub decreases-loop-rest : goal.decreases-loop-rest
decreases-loop-rest l = length l.rest
