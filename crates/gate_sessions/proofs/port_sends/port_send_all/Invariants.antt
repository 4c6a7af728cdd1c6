use Rattle.std.proofs.Common.{◌≡◌, ◌+◌, ℕ, List, Option, length, map, take}
use Rattle.gate_law.specs.order_law.ouch_codec.Inbound.{inbound_bytes}
use Rattle.gate_law.specs.Settings.{Settings}
use Rattle.gate_law.specs.Sessions.{port_outs, sends, to_port}
use Rattle.gate_sessions.specs.Lines.{PortStands, PortsSettledAs, PortsLeave, PortLinks, NextWithin, IsUpAt, called_all}
use Rattle.gate_law.specs.soup_session.Table.{PortCall}
use Rattle.gate_events.specs.Seen.{link_out_seen}
use Rattle.gate_sessions.proofs.port_sends.port_send_all.Given as goal

-- the clauses, of the messages so far
abbrev pub invariant-loop-message : goal.invariant-loop-message
invariant-loop-message l = record {
  leave : (s : Settings) (calls : ℕ → List PortCall) → PortsLeave s calls l.fn.ports.lines.items
      → PortsLeave s (called_all (l.place + 1) (sends l.at (map inbound_bytes (take l.message-index l.messages))) calls)
      l.ports.lines.items;
  outs : (s : Settings) (calls : ℕ → List PortCall) → PortsLeave s calls l.fn.ports.lines.items
      → map link_out_seen l.outs.items ≡ to_port l.link
      (port_outs s (l.place + 1) (calls (l.place + 1))
      (sends l.at (map inbound_bytes (take l.message-index l.messages))));
  links : (links : ℕ → Option ℕ) → PortLinks links l.fn.ports.lines.items → PortLinks links l.ports.lines.items;
  next : (n : ℕ) → NextWithin n l.fn.ports.lines.items → NextWithin n l.ports.lines.items;
  settled : (was : ℕ → PortStands) → PortsSettledAs was l.fn.ports.lines.items → PortsSettledAs was l.ports.lines.items;
  up : IsUpAt l.place l.ports.lines.items;
  length : length l.ports.lines.items ≡ length l.fn.ports.lines.items;
}
