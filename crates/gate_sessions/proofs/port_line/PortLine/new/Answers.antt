use Rattle.gate_sessions.proofs.PortCalls.{port-first}
use Rattle.gate_sessions.proofs.port_line.PortLine.new.Goals as goal

pub returns-clause-leaves : goal.returns-clause-leaves
returns-clause-leaves c = λ s p is. port-first s p _ c.new.result.port c.new.ensures.leaves is
