use Rattle.std.proofs.Common.{◌≡◌}
use Rattle.gateway_run.proofs.running.close_desk.Given as goal

-- each try hands in the same ends
abbrev pub invariant-loop : goal.invariant-loop
invariant-loop g l = l.finished.items ≡ l.initial.finished.items
