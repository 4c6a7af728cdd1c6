use Rattle.std.proofs.Common.{arith, sym}
use Rattle.market_law.specs.Machine as law
use Rattle.market_book.proofs.Lists.{first-at}
use Rattle.market_book.proofs.places.first_live.Goals as goal

pub returns-then-is_live_as : goal.returns-then-is_live_as
returns-then-is_live_as c = first-at (law.is_live_as c.args.token.now) c.args.orders.now c.loop-order.order-index
    c.loop-order.place c.order-item.result (omega arith)
    c.loop-order.invariant.0 c.loop-order.invariant.1 (rw (← c.order-item.is) (sym c.if-is_live_as.ensures))
