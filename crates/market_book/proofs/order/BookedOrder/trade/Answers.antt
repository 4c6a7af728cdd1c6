use Rattle.std.proofs.Common.{rules, refl}
use Rattle.market_book.proofs.Lists.{on-err}
use Rattle.market_book.proofs.Same.{same-order}
use Rattle.market_book.proofs.order.BookedOrder.trade.Goals as goal

pub returns-in_err-insert-clause-err : goal.returns-in_err-insert-clause-err
returns-in_err-insert-clause-err c =
    on-err c.from_residual.result (rw (← c.self.view_is)
    (same-order _ _ refl refl refl refl refl refl c.in_err-insert.ensures.items refl))

pub returns-clause-traded : goal.returns-clause-traded
returns-clause-traded c =
    rw (← c.self.view_is) (same-order _ _ refl refl refl refl refl (search rules) c.in_ok-insert.ensures.items refl)
