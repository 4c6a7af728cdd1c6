-- What the trades of an order were.
use Rattle.std.specs.Prelude.{ℕ, false, List, None, reverse, take}
use Rattle.order_machine.specs.OrderRecord as record_of
use Rattle.order_trades.specs.Marking.{changed_if, told_unbroken}
use Rattle.order_trades.specs.declared.told_trade.ToldTrade.{ToldTrade}
use Rattle.orders.specs.declared.earlier_trades.EarlierTrades.{EarlierTrades}

-- of a list that has the newest first, so many of the oldest
abbrev pub oldest : {A : Type 0} → ℕ → List A → List A
oldest n xs = reverse (take n (reverse xs))

-- of a list that has the oldest first
abbrev pub trades_before : EarlierTrades → List ToldTrade → List ToldTrade
trades_before e trades = changed_if told_unbroken e.unbroken (take e.count trades)

-- a trade of an order's record, not broken
abbrev pub seen_unbroken : record_of.ToldTrade → record_of.ToldTrade
seen_unbroken t = record t { trade = record t.trade { is_broken = false } }

-- of an order's, which has the newest first
abbrev pub told_before : EarlierTrades → List record_of.ToldTrade → List record_of.ToldTrade
told_before e trades = reverse (changed_if seen_unbroken e.unbroken (take e.count (reverse trades)))

-- so many, none of which was broken since
abbrev pub first_trades : ℕ → EarlierTrades
first_trades n = record { count = n; unbroken = None }
