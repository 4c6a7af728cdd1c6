use Rattle.std.proofs.Common.{arith, sym}
use Rattle.market_law.specs.Machine as law
use Rattle.market_book.proofs.Lists.{first-at}
use Rattle.market_book.proofs.places.first_with_trade.Goals as goal

pub returns-then-has_trade : goal.returns-then-has_trade
returns-then-has_trade c = first-at (law.has_trade c.args.match_number) c.args.orders.now c.loop-order.order-index
    c.loop-order.place c.order-item.result (omega arith)
    c.loop-order.invariant.0 c.loop-order.invariant.1 (rw (← c.order-item.is) (sym c.if-has_trade.ensures))
