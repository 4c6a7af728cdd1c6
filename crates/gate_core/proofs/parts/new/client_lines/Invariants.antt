use Rattle.std.proofs.Common.{◌≡◌, [], None, length}
use Rattle.gate_sessions.specs.Lines.{ClientsLeave, ClientLinks}
use Rattle.gate_core.proofs.parts.new.client_lines.Given as goal

-- the lines of the clients so far
abbrev pub invariant-loop-client : goal.invariant-loop-client
invariant-loop-client l = record {
  count : length l.lines.items ≡ l.client-index;
  leave : ClientsLeave l.settings (λ client. []) l.lines.items;
  links : ClientLinks (λ client. None) l.lines.items;
}
