use Rattle.std.proofs.Common.{Bool, bytes_eq, sym, ap, ◌∙◌}
use Rattle.orders.specs.order_law.Told as law
use Rattle.order_machine.specs.OrderRecord.{OrderRecord, last_after, shown_as}
use Rattle.to_client.specs.Pending.{cancel_in}
use Rattle.orders.specs.Seen.{progressed}
use Rattle.market_messages.proofs.CancelRejectRow.{reject-told}
use Rattle.market_messages.proofs.Tells.{only-told}
use Rattle.market_messages.proofs.cancel_reject.tell_cancel_reject.Goals as goal

pub returns-clause-told : goal.returns-clause-told
returns-clause-told c = λ issued.
    let m = c.args.message.now in
    let o = c.args.order.now in
    let p = c.progress_after-progress.result in
    only-told c.in_ok-bodies.bodies.items c.push_cancel_rejected.new.bodies.items _ _ c.in_ok-bodies.ensures.items
    (c.in_ok-push_cancel_rejected.ensures.told o.replaces (cancel_in o.cancel)
    (shown_as (progressed p o)) c.shown_of-shown.ensures (c.pending_of.ensures.pending p))
    (ap (λ (x : Bool). law.cancel_rejected x (shown_as (progressed p o))) c.is_last-is_last.ensures
    ∙ ap (λ (x : OrderRecord). law.cancel_rejected (last_after (bytes_eq m.token) o.cancel) (shown_as x))
    c.progress_after-progress.ensures.after)
    ∙ sym (reject-told m o issued)
