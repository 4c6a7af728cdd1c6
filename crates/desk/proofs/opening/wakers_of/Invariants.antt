use Rattle.std.proofs.Common.{◌≡◌, vec_len}
use Rattle.desk.proofs.opening.wakers_of.Given as goal

abbrev pub invariant-loop : goal.invariant-loop
invariant-loop l = vec_len l.wakers ≡ l.counter
