use Rattle.fixed_point.proofs.SaidInRange.{price_range, quantity_range}
use Rattle.fixed_point.proofs.laws.said_in_range.Goals as goal

pub returns-clause-prices : goal.returns-clause-prices
returns-clause-prices c = price_range

pub returns-clause-quantities : goal.returns-clause-quantities
returns-clause-quantities c = quantity_range
