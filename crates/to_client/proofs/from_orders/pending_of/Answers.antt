use Rattle.std.proofs.Common.{rules, List, ◌++◌, true, false, ◌≡◌, subst, ap, ◌∙◌}
use Rattle.std.specs.Prelude.{IfSome}
use Rattle.order_law.specs.History.{Entry}
use Rattle.order_law.specs.Headline.{Each}
use Rattle.order_law.specs.Verdicts.{is_replace}
use Rattle.orders.specs.order_machine.OrderRecord.{OrderRecord}
use Rattle.to_client.specs.Pending.{cancel_in, messages_in, messages_of}
use Rattle.to_client.specs.Shows.{IsAnyRequest}
use Rattle.to_client.proofs.OfOrders.{are-replaces, entry-listed, is-cancel, messages-seen}
use Rattle.to_client.proofs.from_orders.pending_of.Goals.{in-None, in-Some}
use Rattle.to_client.proofs.from_orders.pending_of.Goals as goal

pub returns-clause-pending : goal.returns-clause-pending
returns-clause-pending c = λ p.
    let o = c.order.inside in
    record {
      in_order = ap (λ (qs : List Entry). c.args.order.now.replaces ++ qs) (entry-listed c.args.order.now.cancel);
      replaces_are = ap messages_in c.as_slice.ensures ∙ messages-seen o.client o.order_id o.replaces
          ∙ ap (λ (r : OrderRecord). messages_of r.replaces) c.order.view_is;
      cancel_is = subst (λ (r : OrderRecord). IsAnyRequest c.match-order.cancel (cancel_in r.cancel)) c.order.view_is
          (elim c.match-order.branch [ in-None w ↦ search rules | in-Some w ↦ search rules ]);
      are_replaces = subst (λ (r : OrderRecord). Each (λ (q : Entry). is_replace q.message ≡ true) r.replaces)
          c.order.view_is (are-replaces o.client o.order_id o.replaces);
      is_cancel_set = subst (λ (r : OrderRecord). IfSome (cancel_in r.cancel)
          (λ (q : Entry). is_replace q.message ≡ false)) c.order.view_is (is-cancel o.client o.order_id o.cancel);
    }
