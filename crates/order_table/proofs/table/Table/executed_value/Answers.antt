use Rattle.std.proofs.Common.{sym, ap, ◌∙◌}
use Rattle.order_table.specs.declared.sums.Sums.{Sums}
use Rattle.order_table.specs.Held.{Held}
use Rattle.order_table.specs.Sums.{value_sum, own_value}
use Rattle.order_table.proofs.Summed.{sum-reverse}
use Rattle.order_table.proofs.table.Table.executed_value.Goals as goal

pub returns : goal.returns
returns g c =
    ap (λ (s : Sums). s.value) c.of.ensures
    ∙ (c.self.inside.counted.by_client c.args.client).value
    ∙ sym (sum-reverse (own_value c.args.client) c.self.inside.orders.now)
    ∙ ap (λ (h : Held). value_sum h.orders c.args.client) c.self.view_is
