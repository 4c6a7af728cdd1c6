use Rattle.std.proofs.Common.{◌≡◌, take, None}
use Rattle.std.specs.List.{find}
use Rattle.market_law.specs.Rows.{has_had}
use Rattle.market_book.proofs.book.row_in.Given as goal

abbrev pub invariant-loop-order : goal.invariant-loop-order
invariant-loop-order l = find (has_had l.token) (take l.order-index l.orders) ≡ None
