use Rattle.std.proofs.Common.{◌≡◌, [], None, length}
use Rattle.gate_sessions.specs.Lines.{PortsLeave, PortLinks, NextWithin}
use Rattle.gate_core.proofs.parts.new.port_lines.Given as goal

-- the lines of the ports so far
abbrev pub invariant-loop-port : goal.invariant-loop-port
invariant-loop-port l = record {
  count : length l.lines.items ≡ l.port-index;
  leave : PortsLeave l.settings (λ p. []) l.lines.items;
  links : PortLinks (λ p. None) l.lines.items;
  next : NextWithin 1 l.lines.items;
}
