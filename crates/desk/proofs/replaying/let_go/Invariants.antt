use Rattle.std.proofs.Common.{◌≡◌, length}
use Rattle.desk.proofs.replaying.let_go.Given as goal

-- as many outlets
abbrev pub invariant-loop-place : goal.invariant-loop-place
invariant-loop-place g l = l.place-end ≡ length l.outlets.items
