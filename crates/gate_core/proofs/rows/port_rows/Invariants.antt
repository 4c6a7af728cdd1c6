use Rattle.std.proofs.Common.{◌≡◌, map, take}
use Rattle.gate_core.specs.Board.{port_row_of}
use Rattle.gate_core.proofs.rows.port_rows.Given as goal

-- those of the ports so far
abbrev pub invariant-loop-line : goal.invariant-loop-line
invariant-loop-line l = l.rows.items ≡ map port_row_of (take l.line-index l.lines)
