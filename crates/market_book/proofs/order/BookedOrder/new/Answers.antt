use Rattle.std.proofs.Common.{rules, refl}
use Rattle.market_book.proofs.Same.{same-order}
use Rattle.market_book.proofs.order.BookedOrder.new.Goals as goal
use Rattle.market_book.proofs.order.BookedOrder.new.Goals.{in-Live, in-Dead}

pub returns : goal.returns
returns c = elim c.match-state.branch [
  | in-Live w ↦ rw w.in-Live.is (same-order _ _ refl c.new.ensures.items (search rules) refl
      (search rules) refl c.new-2.ensures.items refl)
  | in-Dead w ↦ rw w.in-Dead.is (same-order _ _ refl c.new.ensures.items (search rules) refl
      (search rules) refl c.new-2.ensures.items refl)
]
