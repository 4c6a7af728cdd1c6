use Rattle.std.proofs.Common.{arith, false}
use Rattle.market_law.specs.order_law.Life.{marked}
use Rattle.market_book.proofs.Lists.{changed_more}
use Rattle.market_book.proofs.order.mark.Goals as goal

pub loop-trade-preserved : goal.loop-trade-preserved
loop-trade-preserved c =
    rw c.marked.ensures (changed_more (marked c.args.match_number) c.args.trades.now.items c.loop-trade.trade-items
    c.loop-trade.trade-index (record { match_number = 0; shares = 0; price = 0; is_broken = false }) (omega arith)
    (omega arith) c.loop-trade.invariant)
