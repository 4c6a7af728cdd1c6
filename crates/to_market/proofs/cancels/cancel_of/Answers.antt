use Rattle.std.proofs.Common.{◌≡◌, refl, sym, ap, ◌∙◌, length, decimal, Some}
use Rattle.std.proofs.lemmas.Result.{IfOk-weaker}
use Rattle.fix_types.specs.CancelRequest.{cancel_request_fields}
use Rattle.order_machine.specs.OrderRecord.{OrderRecord, shown_as}
use Rattle.order_machine.specs.Table.{named_as}
use Rattle.to_market.specs.PortsSeen.{port_seen}
use Rattle.to_market.proofs.Standing.{named-in, read-in}
use Rattle.to_market.proofs.Steps.{refused-in, verdict-is}
use Rattle.to_market.proofs.cancels.cancel_of.Goals as goal

pub returns-in_ok-body-in-Err : goal.returns-in_ok-body-in-Err
returns-in_ok-body-in-Err g c = λ s stands.
    let r = c.args.request.now in
    let o = c.args.order.now in
    let sender = c.args.sender.now in
    let held = c.args.table.now in
    let of_order : o.new.order ≡ decimal c.order.inside.order_id =
    ap (λ (x : OrderRecord). x.new.order) (sym c.order.view_is) in
    let named = named-in s c.args.issued sender held r.cl_ord_id c.args.is_used r.orig_cl_ord_id
    (Some o) stands c.requires.named in
    let reads = read-in s c.args.issued sender held r.cl_ord_id c.args.is_used r.orig_cl_ord_id o
    c.order.inside.order_id c.replace_count-replaces.result c.named_of.result stands named of_order
    c.replace_count-replaces.ensures c.named_of.ensures.reads in
    refused-in s sender (cancel_request_fields r) (Some o) c.in-Err.refusal c.in_ok-body-in-Err.body refl named
    (verdict-is s sender.client (cancel_request_fields r) (port_seen sender.port) c.args.is_used
    (Some o) refl stands.used named
    ∙ c.in-Err.ensures (cancel_request_fields r) (Some (named_as s o)) (length s.tokens) refl reads)
    (c.in_ok-body-in-Err.ensures (cancel_request_fields r)
    (Some (shown_as o)) c.of_cancel-asked.ensures c.shown_now.ensures)

pub returns-in-Ok : goal.returns-in-Ok
returns-in-Ok g c =
    IfOk-weaker c.accept_cancel.result _ _
    (λ turn accepts s stands.
    let r = c.args.request.now in
    let o = c.args.order.now in
    let sender = c.args.sender.now in
    let held = c.args.table.now in
    let of_order : o.new.order ≡ decimal c.order.inside.order_id =
    ap (λ (x : OrderRecord). x.new.order) (sym c.order.view_is) in
    let named = named-in s c.args.issued sender held r.cl_ord_id c.args.is_used r.orig_cl_ord_id
    (Some o) stands c.requires.named in
    let reads = read-in s c.args.issued sender held r.cl_ord_id c.args.is_used r.orig_cl_ord_id o
    c.order.inside.order_id c.replace_count-replaces.result c.named_of.result stands named of_order
    c.replace_count-replaces.ensures c.named_of.ensures.reads in
    accepts s (record {
      reports = stands.reports;
      named = named;
      verdict = verdict-is s sender.client (cancel_request_fields r) (port_seen sender.port) c.args.is_used
          (Some o) refl stands.used named
          ∙ c.in-Ok.ensures (cancel_request_fields r) (Some (named_as s o)) (length s.tokens) refl reads;
    }))
    c.accept_cancel.ensures
