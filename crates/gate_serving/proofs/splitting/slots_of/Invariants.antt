use Rattle.std.proofs.Common.{◌≡◌, vec_len}
use Rattle.gate_serving.proofs.splitting.slots_of.Given as goal

abbrev pub invariant-loop : goal.invariant-loop
invariant-loop g l = vec_len l.slots ≡ l.counter
