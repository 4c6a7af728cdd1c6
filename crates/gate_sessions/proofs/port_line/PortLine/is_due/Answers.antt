use Rattle.gate_law.specs.Settings.{port_terms}
use Rattle.gate_law.specs.Sessions.{port_answer}
use Rattle.gate_sessions.specs.Leaving.{PortLeaves, is_port_due}
use Rattle.gate_sessions.proofs.port_line.PortLine.is_due.Goals as goal

pub returns : goal.returns
unfolding PortLeaves is_port_due port_answer
returns c s p calls is = c.is_due.ensures (port_terms s p) calls is
