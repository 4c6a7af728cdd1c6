use Rattle.order_trades.proofs.Places.{has-own, only-false}
use Rattle.order_trades.proofs.indexed.place_if.Goals as goal

pub returns-then-is_at : goal.returns-then-is_at
returns-then-is_at c =
    let there = c.is_at.ensures.yes c.if-is_at.true in
    record { told = there.0; at = there.1; its_own = has-own c.args.match_number there.0 there.2 }

pub returns-else-is_at : goal.returns-else-is_at
returns-else-is_at c = only-false c.args.match_number c.args.trades.now c.args.place c.requires
    (c.is_at.ensures.no c.if-is_at.false)
