use Rattle.std.proofs.Common.{rules, sym, ap, ◌∙◌}
use Rattle.std.specs.Prelude.{not}
use Rattle.std.specs.List.{list_any}
use Rattle.order_law.specs.History.{Entry}
use Rattle.order_law.specs.Verdicts.{is_replace}
use Rattle.order_law.specs.Told as law
use Rattle.orders.specs.order_machine.OrderRecord.{OrderRecord, pending}
use Rattle.to_client.proofs.OfOrders.{any-cancel-seen, any-replace-seen}
use Rattle.to_client.proofs.from_orders.shown_of.Goals as goal

pub returns : goal.returns
returns c = record {
  order = search rules;
  id = search rules;
  symbol = search rules;
  side = search rules;
  total = search rules;
  price = search rules;
  leaves = search rules;
  executed = search rules;
  value = search rules;
  stage = search rules;
  is_refused = search rules;
  cancel =
      ap (λ (o : OrderRecord). list_any law.is_cancel (pending o)) (sym c.order.view_is)
      ∙ any-cancel-seen c.order.inside.client c.order.inside.order_id c.order.inside.replaces c.order.inside.cancel
      ∙ sym c.is_some.ensures;
  replace =
      ap (λ (o : OrderRecord). list_any (λ (q : Entry). is_replace q.message) (pending o)) (sym c.order.view_is)
      ∙ any-replace-seen c.order.inside.client c.order.inside.order_id c.order.inside.replaces c.order.inside.cancel
      ∙ sym (ap not c.is_empty.ensures);
}
