-- The pairs of the clients so far.
use Rattle.std.proofs.Common.{◌≡◌}
use Rattle.gate_audit.specs.Pairs.{orders_of}
use Rattle.gate_audit.specs.Passes.{pairs_with}
use Rattle.gate_audit.specs.Read.{for_clients}
use Rattle.gate_audit.proofs.paired.paired.Given as goal

abbrev pub invariant-loop-place : goal.invariant-loop-place
invariant-loop-place l = l.pairs.items ≡ pairs_with (for_clients (λ c. orders_of c l.openings) l.place) l.fix l.said
