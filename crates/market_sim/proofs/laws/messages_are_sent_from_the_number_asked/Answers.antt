use Rattle.market_sim.proofs.Serving.{run-served}
use Rattle.market_sim.proofs.laws.messages_are_sent_from_the_number_asked.Goals as goal

pub returns : goal.returns
returns c = run-served
