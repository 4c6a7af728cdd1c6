use Rattle.std.proofs.Common.{◌≡◌, ◌++◌, map, take, drop}
use Rattle.market_law.specs.order_law.Life.{marked}
use Rattle.market_book.proofs.order.mark.Given as goal

abbrev pub invariant-loop-trade : goal.invariant-loop-trade
invariant-loop-trade l = l.trade-items ≡ map (marked l.match_number) (take l.trade-index l.fn.trades.items)
    ++ drop l.trade-index l.fn.trades.items
