use Rattle.std.proofs.Common.{◌≡◌, ◌+◌, refl, subst, sym, ap, decimal}
use Rattle.fix_types.specs.ReplaceRequest.{replace_request_fields}
use Rattle.order_law.specs.History.{last_token, terms_of}
use Rattle.order_machine.specs.OrderRecord.{OrderRecord, live_token, replacements, shown_as}
use Rattle.to_market.proofs.AcceptedReplace.{entry_of, replacing-in}
use Rattle.order_law.specs.wire_law.Printable.{ArePrintable}
use Rattle.to_market.proofs.Sending.{printable-last}
use Rattle.to_market.proofs.replaces.accept_replace.Goals as goal

pub replaces_of-requires : goal.replaces_of-requires
replaces_of-requires c =
    let o = c.order.inside in
    subst ArePrintable (ap (λ (r : OrderRecord). last_token (live_token r) (replacements r.replaces)) c.order.view_is)
    (printable-last o.client o.order_id o.token o.token_set o.replaces)

pub returns : goal.returns
returns c = λ s is takes.
    let r = c.args.request.now in
    let o = c.args.order.now in
    let sender = c.args.sender.now in
    let of_order : o.new.order ≡ decimal c.order.inside.order_id =
    ap (λ (x : OrderRecord). x.new.order) (sym c.order.view_is) in
    replacing-in s c.args.issued c.args.given sender r o c.order.inside.order_id _ _ c.args.ask.now.token _
    c.in_ok-asks.asks.items
    is takes of_order c.in_ok-message.ensures refl c.requires.token
    refl c.bytes-token.ensures.bytes refl refl
    (c.in_ok-report.ensures (entry_of sender.client r o (c.args.given + 1))
    (shown_as o) c.of_replace-asked.ensures c.shown_now-shown.ensures)
    (λ order_of finds. c.in_ok-asks.ensures.says (replace_request_fields r)
    (terms_of s.terms sender.client).standing order_of c.requires.asks finds)
    c.in_ok-asks.ensures.few
