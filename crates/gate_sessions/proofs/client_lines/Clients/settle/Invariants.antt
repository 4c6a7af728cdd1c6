use Rattle.std.proofs.Common.{◌≡◌, map, take}
use Rattle.gate_sessions.specs.Lines.{client_now, client_settled}
use Rattle.gate_sessions.proofs.client_lines.Clients.settle.Given as goal

abbrev pub invariant-loop-line : goal.invariant-loop-line
invariant-loop-line l = (map client_now l.line-items ≡ map client_now l.fn.self.lines.items)
    × (take l.line-index (map client_settled l.line-items) ≡ take l.line-index (map client_now l.fn.self.lines.items))
