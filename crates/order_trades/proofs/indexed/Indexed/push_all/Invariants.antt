use Rattle.std.proofs.Common.{◌≡◌, take}
use Rattle.order_trades.proofs.indexed.Indexed.push_all.Given as goal

-- those before the place were pushed
abbrev pub invariant-loop-told : goal.invariant-loop-told
invariant-loop-told l = l.self ≡ take l.told-index l.trades
