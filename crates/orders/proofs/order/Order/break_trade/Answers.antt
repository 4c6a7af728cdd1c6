use Rattle.std.proofs.Common.{◌≡◌, map, reverse, ap, ◌∙◌}
use Rattle.order_machine.specs.OrderRecord.{with_trade_broken, mark}
use Rattle.orders.specs.Seen.{told_seen}
use Rattle.orders.specs.contracts.order.Order.{the_view}
use Rattle.orders.proofs.Broken.{broken-is}
use Rattle.orders.proofs.Marks.{marked-seen}
use Rattle.orders.proofs.order.Order.break_trade.Goals as goal

pub returns : goal.returns
returns c =
    let trades : reverse (map told_seen c.mark.new.self)
    ≡ map (mark c.args.told.trade.match_number) (reverse (map told_seen c.self.inside.trades)) =
    ap (λ ts. reverse (map told_seen ts)) c.mark.ensures
    ∙ marked-seen c.args.told.trade.match_number c.self.inside.trades in
    let is = c.broken-self-inside.ensures in
    broken-is c.args.told (the_view c.self.inside) c.broken-self-inside.result
    (reverse (map told_seen c.mark.new.self)) trades
    is.stage is.refused is.total_closed is.total_open is.price is.unfilled is.executed is.cancelled is.value
    ∙ ap (with_trade_broken (told_seen c.args.told)) c.self.view_is
