use Rattle.fixed_point.proofs.SaidInRange.{price_of_price_text}
use Rattle.fixed_point.proofs.laws.printed_reads_back.Goals as goal

pub returns : goal.returns
returns c = price_of_price_text
