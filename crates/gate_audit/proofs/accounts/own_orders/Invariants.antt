-- The orders of the clients so far.
use Rattle.std.proofs.Common.{◌≡◌, map}
use Rattle.gate_audit.specs.Accepted.{as_unread, own_of}
use Rattle.gate_audit.specs.Read.{for_clients}
use Rattle.gate_audit.proofs.accounts.own_orders.Given as goal

abbrev pub invariant-loop-place : goal.invariant-loop-place
invariant-loop-place l = l.orders.items ≡ for_clients (λ c. map as_unread (own_of c l.accepted)) l.place
