use Rattle.gate_law.proofs.Other.{second-client, second-port}
use Rattle.gate_law.proofs.laws.second_links_are_closed.Goals as goal

pub returns-clause-clients : goal.returns-clause-clients
returns-clause-clients c = second-client

pub returns-clause-ports : goal.returns-clause-ports
returns-clause-ports c = second-port
