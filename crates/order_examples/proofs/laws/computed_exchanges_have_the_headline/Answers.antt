use Rattle.order_examples.proofs.Holding.{computed-holds}
use Rattle.order_examples.proofs.laws.computed_exchanges_have_the_headline.Goals as goal

pub returns : goal.returns
returns c = computed-holds
