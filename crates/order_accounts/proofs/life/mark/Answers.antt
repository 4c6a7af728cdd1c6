use Rattle.std.proofs.Common.{arith, false}
use Rattle.order_law.specs.Life.{marked}
use Rattle.order_accounts.proofs.Lists.{changed_more}
use Rattle.order_accounts.proofs.life.mark.Goals as goal

pub loop-trade-preserved : goal.loop-trade-preserved
loop-trade-preserved c =
    rw c.marked.ensures (changed_more (marked c.args.match_number) c.args.trades.now.items c.loop-trade.trade-items
    c.loop-trade.trade-index (record { match_number = 0; shares = 0; price = 0; is_broken = false }) (omega arith)
    (omega arith) c.loop-trade.invariant)
