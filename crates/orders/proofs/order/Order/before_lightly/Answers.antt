use Rattle.orders.proofs.Restoring.{light-before}
use Rattle.orders.proofs.order.Order.before_lightly.Goals as goal

pub returns : goal.returns
returns c = λ light. light-before c.args.change c.args.self.now c.before_alone.result c.trades_before.result light
    c.trades_before.ensures.trades c.before_alone.ensures
