use Rattle.std.proofs.Common.{arith, sym, false}
use Rattle.market_law.specs.order_law.Life.{stands_as}
use Rattle.market_book.proofs.Lists.{found_here, none_more}
use Rattle.market_book.proofs.order.standing.Goals as goal

pub returns-then-stands : goal.returns-then-stands
returns-then-stands c =
    sym (found_here (stands_as c.args.match_number) c.args.trades.now c.loop-trade.trade-index
    (record { match_number = 0; shares = 0; price = 0; is_broken = false }) (omega arith) c.loop-trade.invariant
    (sym c.if-stands.ensures))

pub loop-trade-preserved : goal.loop-trade-preserved
loop-trade-preserved c =
    none_more (stands_as c.args.match_number) c.args.trades.now c.loop-trade.trade-index
    (record { match_number = 0; shares = 0; price = 0; is_broken = false }) (omega arith) c.loop-trade.invariant
    (sym c.if-stands.ensures)
