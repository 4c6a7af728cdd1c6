use Rattle.std.proofs.Common.{sym, ap, ◌∙◌}
use Rattle.order_machine.specs.OrderRecord as record_of
use Rattle.std.proofs.Common.{List}
use Rattle.orders.specs.EarlierTrades.{told_before}
use Rattle.orders.proofs.Restoring.{breaks-marks, first-trades}
use Rattle.orders.proofs.order.Order.trades_before.Goals as goal

pub returns-in-None-clause-trades : goal.returns-in-None-clause-trades
returns-in-None-clause-trades c =
    first-trades c.args.change c.args.self.now c.trades_so_far.result (sym c.breaks.ensures ∙ c.in-None.is)
    c.trades_so_far.ensures.trades

pub returns-in-Some-clause-trades : goal.returns-in-Some-clause-trades
returns-in-Some-clause-trades c =
    ap (λ (ts : List record_of.ToldTrade). told_before c.trades_before_mark.result ts)
    (breaks-marks c.args.change c.args.self.now c.in-Some.match_number (sym c.breaks.ensures ∙ c.in-Some.is))
    ∙ c.trades_before_mark.ensures.trades
