-- The orders at the places so far have heard the report.
use Rattle.std.proofs.Common.{◌≡◌, map, take}
use Rattle.order_law.specs.Headline.{Each}
use Rattle.gate_audit.specs.Passes.{HasHeld, changed_at, hears, order_id}
use Rattle.gate_audit.proofs.order_readings.hear_at.Given as goal

abbrev pub invariant-loop-place : goal.invariant-loop-place
invariant-loop-place l = record {
  heard : l.orders.items ≡ changed_at (hears l.client l.report) (take l.place-index l.places) l.fn.orders.items;
  same : map order_id l.orders.items ≡ map order_id l.fn.orders.items;
  held : Each HasHeld l.fn.orders.items → Each HasHeld l.orders.items;
}
