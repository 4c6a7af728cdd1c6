use Rattle.std.proofs.Common.{◌≤◌, List, length, sym, subst}
use Rattle.order_trades.specs.declared.told_trade.ToldTrade.{ToldTrade}
use Rattle.orders.proofs.Marks.{few-before}
use Rattle.orders.proofs.earlier_trades.put_trades_back.Goals as goal

pub returns-clause-most : goal.returns-clause-most
returns-clause-most c =
    subst (λ (ts : List ToldTrade). length ts ≤ c.args.earlier.count) (sym c.put_back.ensures)
    (few-before c.args.earlier.count c.args.earlier.unbroken c.args.trades.now)
