use Rattle.std.proofs.Common.{◌≡◌, length}
use Rattle.gateway_run.proofs.resuming.end_links.Given as goal

-- as many inlets
abbrev pub invariant-loop-link : goal.invariant-loop-link
invariant-loop-link g l = length l.inlets.items ≡ length l.initial.inlets.items
