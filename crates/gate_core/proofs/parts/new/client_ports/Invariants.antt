use Rattle.std.proofs.Common.{◌≡◌, length}
use Rattle.gate_core.specs.State.{ArePortsOf, AreAmong}
use Rattle.gate_core.proofs.parts.new.client_ports.Given as goal

-- those of the clients so far
abbrev pub invariant-loop-client : goal.invariant-loop-client
invariant-loop-client l = record {
  count : length l.ports.items ≡ l.client-index;
  are : ArePortsOf l.settings l.ports.items;
  among : AreAmong (length l.settings.ports) l.ports.items;
}
