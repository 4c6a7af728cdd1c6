use Rattle.std.proofs.Common.{rules}
use Rattle.to_market.specs.PortsSeen.{port_seen}
use Rattle.to_market.proofs.FirstRows.{by_own_rows}
use Rattle.to_market.proofs.requests.ask_of_replace.Goals as goal

pub returns-clause-verdict : goal.returns-clause-verdict
returns-clause-verdict c =
    by_own_rows c.args.is_used c.args.order.now c.in-Some.order
    (port_seen c.args.port) c.args.given c.args.request.now c.change_of.result
    (search rules) (search rules) (search rules) (search rules) (search rules) c.change_of.ensures.verdict
