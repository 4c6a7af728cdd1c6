use Rattle.std.proofs.Common.{rules, refl}
use Rattle.orders.specs.fix_types.declared.cancel_reject.CancelReject.{CancelReject}
use Rattle.fix_values.specs.Reasons.{cxl_rej_number}
use Rattle.to_client.proofs.OnRequests.{IsRejectOf, reject-told}
use Rattle.to_client.proofs.rejecting.cancel_reject.Goals as goal

pub returns : goal.returns
returns c =
    let q = c.args.request.now in
    let r : CancelReject = record {
      order_id = c.order_id_of.result;
      cl_ord_id = c.in_ok-copied.field-0;
      orig_cl_ord_id = c.in_ok-copied-2.field-0;
      ord_status = c.status_or_rejected.result;
      cxl_rej_response_to = q.kind;
      cxl_rej_reason = c.number.result;
      text = c.args.text;
    } in
    let is : IsRejectOf q c.args.order.now (cxl_rej_number c.args.code) c.args.text r = record {
      order_id = c.order_id_of.ensures;
      id = search rules;
      orig = search rules;
      status = c.status_or_rejected.ensures;
      answers = refl;
      code = c.number.ensures;
      words = refl;
    } in
    λ m s asks shows. reject-told q c.args.order.now (cxl_rej_number c.args.code) c.args.text r m s is asks shows
