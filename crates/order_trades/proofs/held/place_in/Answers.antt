use Rattle.order_trades.proofs.Places.{walked}
use Rattle.order_trades.proofs.held.place_in.Goals as goal

pub returns : goal.returns
returns c = walked c.args.match_number c.args.trades.now c.walked_to.result c.walked_to.ensures
