use Rattle.std.proofs.Common.{sym, ap, ◌∙◌}
use Rattle.order_machine.specs.Table.{is_open_of, open_count}
use Rattle.order_table.specs.declared.sums.Sums.{Sums}
use Rattle.order_table.specs.Held.{Held}
use Rattle.order_table.proofs.Newest.{count-reverse}
use Rattle.order_table.proofs.table.Table.open_count.Goals as goal

pub returns : goal.returns
returns g c =
    ap (λ (s : Sums). s.still_open) c.of.ensures
    ∙ (c.self.inside.counted.by_client c.args.client).still_open
    ∙ sym (count-reverse (is_open_of c.args.client) c.self.inside.orders.now)
    ∙ ap (λ (h : Held). open_count h.orders c.args.client) c.self.view_is
