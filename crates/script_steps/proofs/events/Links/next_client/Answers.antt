use Rattle.std.proofs.Common.{rules}
use Rattle.script_steps.proofs.Places.{client-set}
use Rattle.script_steps.proofs.events.Links.next_client.Goals as goal

pub returns-clause-number : goal.returns-clause-number
returns-clause-number c = client-set c.args.self.now.clients c.index.result c.next.new.self c.args.client
    (search rules) c.index.ensures.index
