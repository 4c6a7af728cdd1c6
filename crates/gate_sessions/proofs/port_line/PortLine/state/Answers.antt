use Rattle.gate_sessions.proofs.PortCalls.{port-stands}
use Rattle.gate_sessions.proofs.port_line.PortLine.state.Goals as goal

pub returns-clause-state : goal.returns-clause-state
returns-clause-state c = λ s p calls. port-stands s p calls c.args.self.now.session.port c.state.result
    c.state.ensures.state
