use Rattle.std.proofs.Common.{◌≡◌, map, take}
use Rattle.gate_sessions.specs.Lines.{port_now, port_settled}
use Rattle.gate_sessions.proofs.port_lines.Ports.undo.Given as goal

abbrev pub invariant-loop-line : goal.invariant-loop-line
invariant-loop-line l = (map port_settled l.line-items ≡ map port_settled l.fn.self.lines.items)
    × (take l.line-index (map port_now l.line-items) ≡ take l.line-index (map port_settled l.fn.self.lines.items))
