use Rattle.std.proofs.Common.{sym, ap, ◌∙◌}
use Rattle.order_table.specs.declared.sums.Sums.{Sums}
use Rattle.order_table.specs.Held.{Held}
use Rattle.order_table.specs.Sums.{executed_sum, own_executed}
use Rattle.order_table.proofs.Summed.{sum-reverse}
use Rattle.order_table.proofs.table.Table.executed_shares.Goals as goal

pub returns : goal.returns
returns g c =
    ap (λ (s : Sums). s.executed) c.of.ensures
    ∙ (c.self.inside.counted.by_client c.args.client).executed
    ∙ sym (sum-reverse (own_executed c.args.client) c.self.inside.orders.now)
    ∙ ap (λ (h : Held). executed_sum h.orders c.args.client) c.self.view_is
