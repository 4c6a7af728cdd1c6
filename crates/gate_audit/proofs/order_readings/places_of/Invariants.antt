-- The places of the orders so far.
use Rattle.std.proofs.Common.{map, take}
use Rattle.order_accounts.specs.Shelved.{HasOrders}
use Rattle.gate_audit.specs.Passes.{order_id}
use Rattle.gate_audit.proofs.order_readings.places_of.Given as goal

abbrev pub invariant-loop-place : goal.invariant-loop-place
invariant-loop-place l = HasOrders (map order_id (take l.place l.orders)) l.places
