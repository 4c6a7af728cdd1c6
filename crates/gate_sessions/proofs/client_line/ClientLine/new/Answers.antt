use Rattle.gate_sessions.proofs.ClientCalls.{client-first}
use Rattle.gate_sessions.proofs.client_line.ClientLine.new.Goals as goal

pub returns-clause-leaves : goal.returns-clause-leaves
returns-clause-leaves c = λ s k gate client. client-first s k c.args.gate c.args.client c.new.result.session
    c.new.ensures.leaves gate client
