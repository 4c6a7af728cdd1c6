use Rattle.std.proofs.Common.{ℕ, sym, ◌∙◌, subst}
use Rattle.gate_core.specs.State.{AreAmong}
use Rattle.gate_core.proofs.parts.Parts.new.Goals as goal

pub returns-clause-shaped : goal.returns-clause-shaped
returns-clause-shaped g c = record {
  client_ports = c.in_ok-client_ports.ensures.length ∙ sym c.in_ok-client_lines.ensures.length;
  among = subst (λ (count : ℕ). AreAmong count c.in_ok-client_ports.field-0.items)
      (sym c.in_ok-port_lines.ensures.length) c.in_ok-client_ports.ensures.among;
  served = c.requires.clients ∙ sym c.in_ok-client_lines.ensures.length;
  few_clients = c.in_ok-client_lines.ensures.few;
  few_ports = c.in_ok-port_lines.ensures.few;
}
