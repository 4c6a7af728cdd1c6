use Rattle.std.proofs.Common.{◌≡◌, ◌+◌, true, false, None, sym, ap, ◌∙◌, codes}
use Rattle.orders.specs.fix_types.Report.{report_fields}
use Rattle.orders.specs.order_law.Told as law
use Rattle.order_machine.specs.OrderRecord.{OrderRecord, shown_as}
use Rattle.to_client.specs.Pending.{cancel_in}
use Rattle.orders.specs.Changes.{changed_by, with_quantities}
use Rattle.orders.specs.declared.change.Change.{Change}
use Rattle.orders.specs.declared.change.Change.TheVariants as changes
use Rattle.orders.specs.Seen.{progressed}
use Rattle.market_messages.proofs.AcceptedRow.{dead-told, live-told}
use Rattle.market_messages.proofs.Tells.{first-told, more-told}
use Rattle.market_messages.proofs.accepted.tell_accepted.Goals as goal

pub returns-then-is_dead-clause-told : goal.returns-then-is_dead-clause-told
returns-then-is_dead-clause-told c =
    let m = c.args.message.now in
    let o = c.args.order.now in
    let p = c.progress_after-opened.result in
    let q = c.progress_after-gone.result in
    let opened : progressed p o ≡ with_quantities (changed_by (changes.Opened m.shares m.price false) o) o =
    c.progress_after-opened.ensures.after ∙ ap (λ (x : Change). with_quantities (changed_by x o) o) c.opened_by.ensures
    in
    let gone : progressed q o ≡ with_quantities (changed_by (changes.Opened m.shares m.price true) o) o =
    c.progress_after-gone.ensures.after ∙ ap (λ (x : Change). with_quantities (changed_by x o) o)
    c.opened_by-then-is_dead.ensures in
    more-told c.push_report.new.bodies.items c.push_canceled.new.bodies.items _ _ _
    (first-told c.in_ok-bodies.bodies.items c.push_report.new.bodies.items
    (report_fields c.in_ok-report.report) _ c.in_ok-bodies.ensures.items c.in_ok-push_report.ensures.told
    (c.in_ok-report.ensures.told (shown_as (progressed p o)) c.shown_of-shown.ensures
    ∙ ap (λ (x : OrderRecord). law.report (c.args.issued + 1) (law.plain (codes "0")) (shown_as x)) opened))
    (c.in_ok-push_canceled.ensures.told o.replaces (cancel_in o.cancel)
    (shown_as (progressed q o)) c.shown_of-closed.ensures (c.pending_of-pending.ensures.pending q))
    (ap (λ (x : OrderRecord). law.cancelled (c.args.issued + 2) None (shown_as x)) gone)
    ∙ sym (dead-told c.args.issued m o (sym c.if-is_dead.ensures))

pub returns-clause-told : goal.returns-clause-told
returns-clause-told c =
    let m = c.args.message.now in
    let o = c.args.order.now in
    let p = c.progress_after-opened.result in
    let opened : progressed p o ≡ with_quantities (changed_by (changes.Opened m.shares m.price false) o) o =
    c.progress_after-opened.ensures.after ∙ ap (λ (x : Change). with_quantities (changed_by x o) o) c.opened_by.ensures
    in
    first-told c.in_ok-bodies.bodies.items c.push_report.new.bodies.items
    (report_fields c.in_ok-report.report) _ c.in_ok-bodies.ensures.items c.in_ok-push_report.ensures.told
    (c.in_ok-report.ensures.told (shown_as (progressed p o)) c.shown_of-shown.ensures
    ∙ ap (λ (x : OrderRecord). law.report (c.args.issued + 1) (law.plain (codes "0")) (shown_as x)) opened)
    ∙ sym (live-told c.args.issued m o (sym c.if-is_dead.ensures))
