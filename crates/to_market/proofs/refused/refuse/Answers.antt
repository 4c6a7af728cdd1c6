use Rattle.to_market.proofs.Entering.{refused-in}
use Rattle.to_market.proofs.refused.refuse.Goals as goal

pub returns : goal.returns
returns c = λ s sender held is_used after verdict.
    refused-in s c.args.order_ids c.args.exec_ids sender held is_used c.args.order.now after c.args.row
    c.in_ok-body.body verdict c.in_ok-body.ensures
