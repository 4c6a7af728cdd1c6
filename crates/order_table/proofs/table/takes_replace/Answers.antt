use Rattle.std.proofs.Common.{◌≡◌, List, length, map, sym, ap, ◌∙◌}
use Rattle.std.specs.Prelude.{nat_lt}
use Rattle.std.proofs.lemmas.List.{length-map}
use Rattle.order_machine.specs.OrderRecord.{OrderRecord}
use Rattle.undo_orders.specs.Seen.{replace_seen}
use Rattle.undo_orders.specs.orders.declared.requests.Replacing.{Replacing}
use Rattle.order_table.proofs.table.takes_replace.Goals as goal

pub returns : goal.returns
returns c =
    let o = c.order.inside in
    ap (λ n. nat_lt n 4)
    (ap (λ (rs : List Replacing). length rs) c.as_slice.ensures
    ∙ sym (length-map o.replaces (replace_seen o.client o.order_id))
    ∙ ap (λ (r : OrderRecord). length r.replaces) c.order.view_is)
