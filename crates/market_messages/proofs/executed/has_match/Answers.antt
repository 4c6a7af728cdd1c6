use Rattle.std.proofs.Common.{ap, ◌∙◌}
use Rattle.std.specs.Prelude.{◌==◌}
use Rattle.std.specs.List.{list_any}
use Rattle.orders.specs.order_law.declared.trade.Trade.{Trade}
use Rattle.order_machine.specs.OrderRecord.{OrderRecord, record_life}
use Rattle.market_messages.proofs.ExecutedRow.{any-seen}
use Rattle.market_messages.proofs.executed.has_match.Goals as goal

pub returns : goal.returns
returns c =
    let n = c.args.match_number in
    c.holds.ensures ∙ any-seen n c.order.inside.trades
    ∙ ap (λ (o : OrderRecord). list_any (λ (t : Trade). t.match_number == n) (record_life o).trades) c.order.view_is
