-- What the market said of the orders of the clients so far.
use Rattle.std.proofs.Common.{◌≡◌, map}
use Rattle.gate_law.specs.Events.{History}
use Rattle.gate_audit.specs.Called.{AreHandled}
use Rattle.gate_audit.specs.Pairs.{handled_for, orders_of}
use Rattle.gate_audit.specs.Read.{for_clients}
use Rattle.gate_audit.specs.Passes.{said_of}
use Rattle.gate_audit.proofs.lives.lives_of.Given as goal

abbrev pub invariant-loop-place : goal.invariant-loop-place
invariant-loop-place l = (h : History) → AreHandled l.settings h 0 l.fn.ports.items
    → l.said.items ≡ for_clients (λ c. map (said_of (handled_for l.settings h c))
    (orders_of c l.openings.orders.items)) l.place
