use Rattle.std.proofs.Common.{◌≡◌, ◌++◌, map, take, drop}
use Rattle.order_law.specs.Life.{marked}
use Rattle.order_accounts.proofs.life.mark.Given as goal

abbrev pub invariant-loop-trade : goal.invariant-loop-trade
invariant-loop-trade l = l.trade-items ≡ map (marked l.match_number) (take l.trade-index l.fn.trades.items)
    ++ drop l.trade-index l.fn.trades.items
