use Rattle.market_law.proofs.Theorems.{whole}
use Rattle.market_law.proofs.laws.fill_or_kill_trades_all_or_nothing.Goals as goal

pub returns : goal.returns
returns c = whole
