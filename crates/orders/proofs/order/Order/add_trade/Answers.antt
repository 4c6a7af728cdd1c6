use Rattle.std.proofs.Common.{sym, ap, ◌∙◌}
use Rattle.order_machine.specs.OrderRecord.{OrderRecord}
use Rattle.orders.specs.Changes.{holds_match}
use Rattle.orders.proofs.Marks.{holds-seen}
use Rattle.orders.proofs.order.Order.add_trade.Goals as goal

pub push-requires : goal.push-requires
push-requires c =
    holds-seen c.args.told.trade.match_number c.self.inside.trades
    ∙ ap (λ (o : OrderRecord). holds_match c.args.told.trade.match_number o) c.self.view_is
    ∙ c.requires.2
