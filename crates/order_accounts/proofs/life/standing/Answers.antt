use Rattle.std.proofs.Common.{arith, sym, false}
use Rattle.order_law.specs.Life.{stands_as}
use Rattle.order_accounts.proofs.Lists.{found_here, none_more}
use Rattle.order_accounts.proofs.life.standing.Goals as goal

pub returns-then-stands_as : goal.returns-then-stands_as
returns-then-stands_as c =
    sym (found_here (stands_as c.args.match_number) c.args.trades.now c.loop-trade.trade-index
    (record { match_number = 0; shares = 0; price = 0; is_broken = false }) (omega arith) c.loop-trade.invariant
    (sym c.if-stands_as.ensures))

pub loop-trade-preserved : goal.loop-trade-preserved
loop-trade-preserved c =
    none_more (stands_as c.args.match_number) c.args.trades.now c.loop-trade.trade-index
    (record { match_number = 0; shares = 0; price = 0; is_broken = false }) (omega arith) c.loop-trade.invariant
    (sym c.if-stands_as.ensures)
