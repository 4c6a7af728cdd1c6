use Rattle.std.proofs.Common.{◌≡◌, ◌+◌, [], ◌∷◌, Some, sym, ap, ◌∙◌}
use Rattle.orders.specs.fix_types.Report.{report_fields}
use Rattle.orders.specs.order_law.Told as law
use Rattle.order_machine.specs.OrderRecord.{OrderRecord, shown_as}
use Rattle.to_client.specs.Pending.{cancel_in}
use Rattle.orders.specs.Seen.{progressed}
use Rattle.to_client.specs.Occasions.{occasion_seen}
use Rattle.to_client.specs.declared.occasion.Occasion.TheVariants as occasions
use Rattle.market_messages.proofs.CanceledRow.{gone-told, reduced-told}
use Rattle.market_messages.proofs.Tells.{first-told, only-told}
use Rattle.market_messages.proofs.canceled.tell_canceled.Goals as goal

pub returns-then-message-order-clause-told : goal.returns-then-message-order-clause-told
returns-then-message-order-clause-told c =
    let m = c.args.message.now in
    let o = c.args.order.now in
    let p = c.progress_after-progress.result in
    let all : m.decrement ≡ o.unfilled = c.if-message-order.true ∙ ap (λ (x : OrderRecord). x.unfilled) c.order.view_is
    in
    only-told c.in_ok-bodies.bodies.items c.push_canceled.new.bodies.items _ _ c.in_ok-bodies.ensures.items
    (c.in_ok-push_canceled.ensures.told o.replaces (cancel_in o.cancel)
    (shown_as (progressed p o)) c.shown_of-shown.ensures (c.pending_of-pending.ensures.pending p))
    (ap (λ (x : OrderRecord). law.cancelled (c.args.issued + 1) (Some (m.reason ∷ [])) (shown_as x))
    c.progress_after-progress.ensures.after)
    ∙ sym (gone-told m o c.requires.may c.args.issued all)

pub returns-clause-told : goal.returns-clause-told
returns-clause-told c =
    let m = c.args.message.now in
    let o = c.args.order.now in
    let p = c.progress_after-progress.result in
    let part : (m.decrement ≡ o.unfilled) → ⊥ =
    λ e. c.if-message-order.false (e ∙ ap (λ (x : OrderRecord). x.unfilled) (sym c.order.view_is)) in
    first-told c.in_ok-bodies.bodies.items c.push_report.new.bodies.items
    (report_fields c.in_ok-report.report) _ c.in_ok-bodies.ensures.items c.in_ok-push_report.ensures.told
    (c.in_ok-report.ensures.told (shown_as (progressed p o)) c.shown_of-reduced.ensures
    ∙ ap (λ (x : OrderRecord). law.report (c.args.issued + 1) (occasion_seen (occasions.Restated m.reason))
    (shown_as x)) c.progress_after-progress.ensures.after)
    ∙ sym (reduced-told m o c.requires.may c.args.issued part)
