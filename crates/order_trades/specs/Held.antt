-- The trades by where they stand. No public clause cites this module.
use Rattle.std.specs.Prelude.{List, [], ◌∷◌}
use Rattle.order_trades.specs.declared.held.Held.{Held}
use Rattle.order_trades.specs.declared.held.Held.TheVariants.{None, One, Few, Many}
use Rattle.order_trades.specs.declared.told_trade.ToldTrade.{ToldTrade}

abbrev pub held_trades : Held → List ToldTrade
held_trades None = []
held_trades (One told) = told ∷ []
held_trades (Few trades) = trades.items
held_trades (Many indexed) = indexed.value
