use Rattle.std.proofs.Common.{ap, ◌∙◌, Option}
use Rattle.std.specs.Prelude.{option_map}
use Rattle.std.specs.List.{find}
use Rattle.orders.specs.Seen.{told_seen}
use Rattle.orders.specs.order_trades.declared.told_trade.ToldTrade.{ToldTrade}
use Rattle.order_machine.specs.OrderRecord.{OrderRecord, stands_told}
use Rattle.market_messages.proofs.BrokenRow.{standing-seen}
use Rattle.market_messages.proofs.broken.standing_in.Goals as goal

pub returns-clause-newest : goal.returns-clause-newest
returns-clause-newest c =
    ap (λ (t : Option ToldTrade). option_map told_seen t) c.standing.ensures
    ∙ standing-seen c.args.match_number c.order.inside.trades
    ∙ ap (λ (o : OrderRecord). find (stands_told c.args.match_number) o.trades) c.order.view_is
