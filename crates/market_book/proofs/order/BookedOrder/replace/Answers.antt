use Rattle.std.proofs.Common.{rules, refl}
use Rattle.market_book.proofs.Lists.{on-err}
use Rattle.market_book.proofs.Same.{same-order}
use Rattle.market_book.proofs.order.BookedOrder.replace.Goals as goal

pub returns-in_err-insert-clause-err : goal.returns-in_err-insert-clause-err
returns-in_err-insert-clause-err c =
    on-err c.from_residual.result (rw (← c.self.view_is)
    (same-order _ _ refl c.in_err-insert.ensures.items refl refl refl refl refl refl))

pub returns-in-Live-clause-moved : goal.returns-in-Live-clause-moved
returns-in-Live-clause-moved c =
    λ fit. rw (c.in-Live.is, ← c.self.view_is)
    (same-order _ _ refl c.in_ok-insert.ensures.items refl refl refl refl refl refl)

pub returns-in-Dead-clause-moved : goal.returns-in-Dead-clause-moved
returns-in-Dead-clause-moved c =
    λ fit. rw (c.in-Dead.is, ← c.self.view_is)
    (same-order _ _ refl c.in_ok-insert.ensures.items refl refl (search rules) refl refl refl)
