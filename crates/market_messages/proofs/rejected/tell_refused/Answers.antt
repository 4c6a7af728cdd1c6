use Rattle.std.proofs.Common.{◌+◌, sym, ap, ◌∙◌}
use Rattle.orders.specs.fix_types.Report.{report_fields}
use Rattle.orders.specs.order_law.Told as law
use Rattle.order_machine.specs.OrderRecord.{OrderRecord, shown_as}
use Rattle.orders.specs.Seen.{progressed}
use Rattle.to_client.specs.Occasions.{occasion_seen}
use Rattle.to_client.specs.declared.occasion.Occasion.TheVariants as occasions
use Rattle.to_client.specs.Pending.{cancel_in}
use Rattle.market_messages.proofs.RejectedRow.{refused-told}
use Rattle.market_messages.proofs.Tells.{first-told, more-told}
use Rattle.market_messages.proofs.rejected.tell_refused.Goals as goal

pub returns-clause-told : goal.returns-clause-told
returns-clause-told c =
    let m = c.args.message.now in
    let o = c.args.order.now in
    let p = c.progress_after-refused.result in
    more-told c.push_report.new.bodies.items c.push_too_late.new.bodies.items _ _ _
    (first-told c.in_ok-bodies.bodies.items c.push_report.new.bodies.items
    (report_fields c.in_ok-report.report) _ c.in_ok-bodies.ensures.items c.in_ok-push_report.ensures.told
    (c.in_ok-report.ensures.told (shown_as (progressed p o)) c.shown_of-shown.ensures
    ∙ ap (λ (x : OrderRecord). law.report (c.args.issued + 1) (occasion_seen (occasions.Rejected m.reason))
    (shown_as x)) c.progress_after-refused.ensures.after))
    (c.in_ok-push_too_late.ensures.told o.replaces (cancel_in o.cancel)
    (shown_as (progressed p o)) c.shown_of-shown.ensures (c.pending_of.ensures.pending p))
    (ap (λ (x : OrderRecord). law.too_late (shown_as x)) c.progress_after-refused.ensures.after)
    ∙ sym (refused-told c.args.issued m o c.requires.may)
