use Rattle.std.proofs.Common.{◌≡◌, take, None}
use Rattle.std.specs.List.{find}
use Rattle.market_law.specs.order_law.Life.{stands_as}
use Rattle.market_book.proofs.order.standing.Given as goal

abbrev pub invariant-loop-trade : goal.invariant-loop-trade
invariant-loop-trade l = find (stands_as l.match_number) (take l.trade-index l.trades) ≡ None
