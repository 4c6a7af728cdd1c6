use Rattle.fixed_point.proofs.Printed.{worth_of_price_text}
use Rattle.fixed_point.proofs.laws.printed_denotes.Goals as goal

pub returns : goal.returns
returns c = worth_of_price_text
