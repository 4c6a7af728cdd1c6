use Rattle.std.proofs.Common.{◌≡◌, map, subst}
use Rattle.order_machine.specs.OrderRecord.{OrderRecord, mark}
use Rattle.orders.specs.EarlierTrades.{told_before}
use Rattle.orders.specs.declared.earlier_trades.EarlierTrades.{EarlierTrades}
use Rattle.orders.proofs.Marks.{before-mark}
use Rattle.orders.proofs.order.Order.trades_before_mark.Goals as goal

pub returns-clause-trades : goal.returns-clause-trades
returns-clause-trades c =
    let e : EarlierTrades = record { count = c.len.result; unbroken = c.standing_place.result } in
    subst (λ (o : OrderRecord). told_before e (map (mark c.args.match_number) o.trades) ≡ o.trades) c.self.view_is
    (before-mark c.args.match_number c.self.inside.trades e c.len.ensures c.standing_place.ensures.back)
