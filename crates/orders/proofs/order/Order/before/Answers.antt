use Rattle.std.proofs.Common.{◌≡◌, false, sym, ap, ◌∙◌}
use Rattle.std.specs.Prelude.{Some, None}
use Rattle.std.proofs.lemmas.Result.{IfOk-weaker}
use Rattle.order_machine.specs.OrderRecord.{OrderRecord}
use Rattle.orders.specs.Changes.{breaks, changed_by, renames}
use Rattle.orders.proofs.Restoring.{goes-on, leaves}
use Rattle.orders.proofs.order.Order.before.Goals as goal

pub returns-in_ok-cl_ord_id : goal.returns-in_ok-cl_ord_id
returns-in_ok-cl_ord_id c =
    let o = c.args.self.now in
    let change = c.args.change in
    let left = leaves change o in
    let id : c.in_ok-cl_ord_id.cl_ord_id ≡ o.id = c.in_ok-cl_ord_id.ensures ∙ c.as_slice.ensures.bytes
    ∙ ap (λ (x : OrderRecord). x.id) c.self.view_is in
    IfOk-weaker c.before_with.result _ _
    (λ earlier back. back (changed_by change o)
    (goes-on (breaks change) (renames change) o (changed_by change o)
    (Some c.in_ok-cl_ord_id.cl_ord_id) c.trades_before.result left id c.trades_before.ensures.trades))
    c.before_with.ensures

pub returns-else-renames : goal.returns-else-renames
returns-else-renames c =
    let o = c.args.self.now in
    let change = c.args.change in
    let left = leaves change o in
    let named : renames change ≡ false = sym c.renames.ensures ∙ c.if-renames.false in
    IfOk-weaker c.before_with-else-renames.result _ _
    (λ earlier back. back (changed_by change o)
    (goes-on (breaks change) (renames change) o
    (changed_by change o) None c.trades_before-else-renames.result left (left.id named)
    c.trades_before-else-renames.ensures.trades))
    c.before_with-else-renames.ensures
