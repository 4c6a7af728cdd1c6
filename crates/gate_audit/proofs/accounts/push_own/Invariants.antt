-- The client's orders so far.
use Rattle.std.proofs.Common.{◌≡◌, ◌++◌, map, take}
use Rattle.gate_audit.specs.Accepted.{as_unread, own_of}
use Rattle.gate_audit.proofs.accounts.push_own.Given as goal

abbrev pub invariant-loop-order : goal.invariant-loop-order
invariant-loop-order l = l.orders.items ≡ l.fn.orders.items
    ++ map as_unread (own_of l.client (take l.order-index l.accepted))
