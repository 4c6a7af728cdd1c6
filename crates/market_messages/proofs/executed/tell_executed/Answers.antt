use Rattle.std.proofs.Common.{◌≡◌, ◌+◌, sym, ap, ◌∙◌}
use Rattle.orders.specs.fix_types.Report.{report_fields}
use Rattle.orders.specs.order_law.Told as law
use Rattle.order_machine.specs.OrderRecord.{OrderRecord, shown_as}
use Rattle.to_client.specs.Pending.{cancel_in}
use Rattle.orders.specs.Changes.{changed_by, with_quantities}
use Rattle.orders.specs.declared.change.Change.TheVariants as changes
use Rattle.orders.specs.order_trades.declared.told_trade.ToldTrade.{ToldTrade}
use Rattle.orders.specs.Seen.{progressed}
use Rattle.to_client.specs.Occasions.{occasion_seen}
use Rattle.to_client.specs.declared.occasion.Occasion.TheVariants as occasions
use Rattle.market_messages.proofs.ExecutedRow.{filled-told, trade_said, trade-few, trade-new, trade-works, traded-told}
use Rattle.market_messages.proofs.Tells.{first-told, more-told}
use Rattle.market_messages.proofs.executed.tell_executed.Goals as goal

pub progress_after-progress-requires : goal.progress_after-progress-requires
progress_after-progress-requires c =
    let m = c.args.message.now in
    let o = c.args.order.now in
    let may = c.requires.may in
    rw c.told_trade-told.ensures (trade-works m o may, trade-few m o may, trade-new m o may)

pub returns-then-shares-order-clause-told : goal.returns-then-shares-order-clause-told
returns-then-shares-order-clause-told c =
    let m = c.args.message.now in
    let o = c.args.order.now in
    let p = c.progress_after-progress.result in
    let all : m.shares ≡ o.unfilled = c.if-shares-order.true ∙ ap (λ (x : OrderRecord). x.unfilled) c.order.view_is in
    let after : progressed p o ≡ with_quantities (changed_by (changes.Traded (trade_said m (c.args.issued + 1))) o) o =
    c.progress_after-progress.ensures.after ∙ ap
    (λ (t : ToldTrade). with_quantities (changed_by (changes.Traded t) o) o) c.told_trade-told.ensures in
    more-told c.push_report.new.bodies.items c.push_too_late.new.bodies.items _ _ _
    (first-told c.in_ok-bodies.bodies.items c.push_report.new.bodies.items
    (report_fields c.in_ok-report.report) _ c.in_ok-bodies.ensures.items c.in_ok-push_report.ensures.told
    (c.in_ok-report.ensures.told (shown_as (progressed p o)) c.shown_of-shown.ensures
    ∙ ap (λ (x : OrderRecord). law.report (c.args.issued + 1) (occasion_seen (occasions.Trade m.shares m.price))
    (shown_as x)) after))
    (c.in_ok-push_too_late.ensures.told o.replaces (cancel_in o.cancel)
    (shown_as (progressed p o)) c.shown_of-shown.ensures (c.pending_of.ensures.pending p))
    (ap (λ (x : OrderRecord). law.too_late (shown_as x)) after)
    ∙ sym (filled-told m o c.requires.may c.args.issued all)

pub returns-clause-told : goal.returns-clause-told
returns-clause-told c =
    let m = c.args.message.now in
    let o = c.args.order.now in
    let p = c.progress_after-progress.result in
    let part : (m.shares ≡ o.unfilled) → ⊥ = λ e. c.if-shares-order.false
    (e ∙ ap (λ (x : OrderRecord). x.unfilled) (sym c.order.view_is)) in
    let after : progressed p o ≡ with_quantities (changed_by (changes.Traded (trade_said m (c.args.issued + 1))) o) o =
    c.progress_after-progress.ensures.after ∙ ap
    (λ (t : ToldTrade). with_quantities (changed_by (changes.Traded t) o) o) c.told_trade-told.ensures in
    first-told c.in_ok-bodies.bodies.items c.push_report.new.bodies.items
    (report_fields c.in_ok-report.report) _ c.in_ok-bodies.ensures.items c.in_ok-push_report.ensures.told
    (c.in_ok-report.ensures.told (shown_as (progressed p o)) c.shown_of-shown.ensures
    ∙ ap (λ (x : OrderRecord). law.report (c.args.issued + 1) (occasion_seen (occasions.Trade m.shares m.price))
    (shown_as x)) after)
    ∙ sym (traded-told m o c.requires.may c.args.issued part)
