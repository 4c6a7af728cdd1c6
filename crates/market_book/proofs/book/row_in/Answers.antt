use Rattle.std.proofs.Common.{◌∙◌, Some, ap, arith, sym}
use Rattle.market_law.specs.Machine.{BookOrder}
use Rattle.market_law.specs.Rows.{has_had, row_of_order}
use Rattle.market_book.proofs.Lists.{found_here, none_more}
use Rattle.market_book.proofs.book.row_in.Goals as goal

pub returns-then-has_had : goal.returns-then-has_had
returns-then-has_had c =
    c.row.ensures
    ∙ ap (λ (o : BookOrder). row_of_order (Some o)) c.order-item.is
    ∙ ap row_of_order (sym (found_here (has_had c.args.token.now) c.args.orders.now c.loop-order.order-index
    c.order-item.result (omega arith) c.loop-order.invariant (rw (← c.order-item.is) (sym c.if-has_had.ensures))))

pub loop-order-preserved : goal.loop-order-preserved
loop-order-preserved c = none_more (has_had c.args.token.now) c.args.orders.now c.loop-order.order-index
    c.order-item.result (omega arith) c.loop-order.invariant
    (rw (← c.order-item.is) (sym c.if-has_had.ensures))
