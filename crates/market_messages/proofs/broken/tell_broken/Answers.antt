use Rattle.std.proofs.Common.{◌+◌, sym, ap, ◌∙◌}
use Rattle.orders.specs.fix_types.Report.{report_fields}
use Rattle.orders.specs.order_law.Told as law
use Rattle.order_machine.specs.OrderRecord.{OrderRecord, shown_as}
use Rattle.orders.specs.Seen.{progressed}
use Rattle.to_client.specs.Occasions.{occasion_seen}
use Rattle.to_client.specs.declared.occasion.Occasion.TheVariants as occasions
use Rattle.market_messages.proofs.BrokenRow.{broken-told}
use Rattle.market_messages.proofs.Tells.{first-told}
use Rattle.market_messages.proofs.broken.tell_broken.Goals as goal

pub returns-clause-told : goal.returns-clause-told
returns-clause-told c =
    let m = c.args.message.now in
    let o = c.args.order.now in
    let p = c.progress_after-progress.result in
    first-told c.in_ok-bodies.bodies.items c.push_report.new.bodies.items
    (report_fields c.in_ok-report.report) _ c.in_ok-bodies.ensures.items c.in_ok-push_report.ensures.told
    (c.in_ok-report.ensures.told (shown_as (progressed p o)) c.shown_of-shown.ensures
    ∙ ap (λ (x : OrderRecord). law.report (c.args.issued + 1)
    (occasion_seen (occasions.TradeCancel c.args.told.number m.reason)) (shown_as x))
    c.progress_after-progress.ensures.after)
    ∙ sym (broken-told c.args.issued m o c.args.told c.requires.steady c.requires.own c.requires.here)
