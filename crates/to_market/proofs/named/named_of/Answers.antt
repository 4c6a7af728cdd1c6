use Rattle.std.proofs.Common.{rules, ◌≡◌, List, length, map, sym, ap, ◌∙◌}
use Rattle.std.proofs.lemmas.List.{length-map}
use Rattle.order_law.specs.Chain as chain
use Rattle.order_machine.specs.OrderRecord.{OrderRecord, chained}
use Rattle.orders.specs.declared.requests.Replacing.{Replacing}
use Rattle.orders.specs.Seen.{replace_seen}
use Rattle.to_market.proofs.Pending.{any-cancel, count-replaces}
use Rattle.to_market.proofs.named.named_of.Goals as goal

pub returns-clause-reads : goal.returns-clause-reads
returns-clause-reads c = λ s capacity count.
    let o = c.order.inside in
    record {
      side = search rules;
      symbol = search rules;
      capacity = search rules;
      is_closed = search rules;
      executed = search rules;
      cancel = ap (λ (r : OrderRecord). chain.has_pending_cancel (chained r)) (sym c.order.view_is)
          ∙ any-cancel o.client o.order_id o.replaces o.cancel ∙ sym c.is_some.ensures;
      pending = ap (λ (r : OrderRecord). length (chain.replaces (chained r))) (sym c.order.view_is)
          ∙ count-replaces o.client o.order_id o.replaces o.cancel
          ∙ ap (λ (rs : List Replacing). length rs) (sym c.as_slice-pending_replaces.ensures);
      replaces = search rules;
    }

pub returns-clause-pending : goal.returns-clause-pending
returns-clause-pending c =
    let o = c.order.inside in
    ap (λ (rs : List Replacing). length rs) c.as_slice-pending_replaces.ensures
    ∙ sym (length-map o.replaces (replace_seen o.client o.order_id))
    ∙ ap (λ (r : OrderRecord). length r.replaces) c.order.view_is
