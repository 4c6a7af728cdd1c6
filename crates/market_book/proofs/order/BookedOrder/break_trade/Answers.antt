use Rattle.std.proofs.Common.{rules, refl, ◌≡◌, ◌∙◌, ap, sym, Some}
use Rattle.std.specs.List.{find}
use Rattle.market_law.specs.order_law.Life.{stands_as}
use Rattle.market_book.proofs.Same.{same-order}
use Rattle.market_book.proofs.order.BookedOrder.break_trade.Goals as goal

pub returns : goal.returns
returns c =
    let found : find (stands_as c.args.match_number) c.self.inside.trades.items ≡ Some c.in-Some.trade =
    sym (ap (find (stands_as c.args.match_number)) c.as_slice.ensures.value) ∙ sym c.standing.ensures ∙ c.in-Some.is in
    rw (← c.self.view_is, found) (same-order _ _ refl refl refl (search rules) refl (search rules) (search rules) refl)
