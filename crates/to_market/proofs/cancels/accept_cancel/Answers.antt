use Rattle.std.proofs.Common.{◌≡◌, refl, sym, ap, decimal}
use Rattle.fix_types.specs.CancelRequest.{cancel_request_fields}
use Rattle.order_law.specs.History.{terms_of}
use Rattle.order_machine.specs.OrderRecord.{OrderRecord, shown_as}
use Rattle.to_market.proofs.AcceptedCancel.{cancelling-in, entry_of}
use Rattle.to_market.proofs.cancels.accept_cancel.Goals as goal

pub returns : goal.returns
returns c = λ s is.
    let r = c.args.request.now in
    let o = c.args.order.now in
    let sender = c.args.sender.now in
    let of_order : o.new.order ≡ decimal c.order.inside.order_id =
    ap (λ (x : OrderRecord). x.new.order) (sym c.order.view_is) in
    cancelling-in s c.args.issued sender r o c.order.inside.order_id c.in_ok-cancelling.cancelling _
    c.in_ok-asks.asks.items
    is of_order c.in_ok-cancelling.ensures.message c.in_ok-cancelling.ensures.tokens
    (c.in_ok-report.ensures (entry_of sender.client r o)
    (shown_as o) c.of_cancel-asked.ensures c.shown_now-shown.ensures)
    (λ order_of finds. c.in_ok-asks.ensures.says (cancel_request_fields r)
    (terms_of s.terms sender.client).standing order_of refl finds)
    c.in_ok-asks.ensures.few
