use Rattle.std.proofs.Common.{◌≡◌, take, false}
use Rattle.std.specs.List.{list_any}
use Rattle.market_law.specs.Machine as law
use Rattle.market_book.proofs.places.first_live.Given as goal

abbrev pub invariant-loop-order : goal.invariant-loop-order
invariant-loop-order l = (l.place ≡ l.order-index)
    × (list_any (law.is_live_as l.token) (take l.order-index l.orders) ≡ false)
