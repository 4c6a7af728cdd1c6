use Rattle.std.proofs.Common.{◌∙◌, ap}
use Rattle.std.specs.Prelude.{is_some}
use Rattle.std.specs.List.{list_any}
use Rattle.market_law.specs.order_law.Life.{stands_as}
use Rattle.market_law.specs.Machine.{BookOrder, has_trade}
use Rattle.market_book.proofs.Lists.{found-any}
use Rattle.market_book.proofs.order.BookedOrder.has_trade.Goals as goal

pub returns : goal.returns
returns c = c.is_some.ensures ∙ ap is_some c.standing.ensures
    ∙ found-any (stands_as c.args.match_number) c.as_slice.result.now
    ∙ ap (list_any (stands_as c.args.match_number)) c.as_slice.ensures.value
    ∙ ap (λ (o : BookOrder). has_trade c.args.match_number o) c.self.view_is
