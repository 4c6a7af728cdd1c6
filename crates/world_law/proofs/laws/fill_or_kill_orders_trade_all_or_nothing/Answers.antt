use Rattle.world_law.proofs.Alone.{books-whole, readings-whole}
use Rattle.world_law.proofs.laws.fill_or_kill_orders_trade_all_or_nothing.Goals as goal

pub returns-clause-book : goal.returns-clause-book
returns-clause-book c = books-whole

pub returns-clause-reading : goal.returns-clause-reading
returns-clause-reading c = readings-whole
