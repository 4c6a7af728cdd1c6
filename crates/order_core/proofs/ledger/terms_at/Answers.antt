use Rattle.order_core.proofs.Terms.{terms_of-at}
use Rattle.order_core.proofs.ledger.terms_at.Goals as goal

pub returns : goal.returns
returns c = terms_of-at c.args.terms.now c.args.client c.terms_in.result c.requires.from_one c.terms_in.ensures
