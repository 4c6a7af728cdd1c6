use Rattle.std.proofs.Common.{rules, refl}
use Rattle.market_book.proofs.Same.{same-order}
use Rattle.market_book.proofs.order.BookedOrder.take_off.Goals as goal

pub returns : goal.returns
returns c = rw (← c.self.view_is) (same-order _ _ refl refl (search rules) refl (search rules) refl refl refl)
