use Rattle.std.proofs.Common.{◌≡◌, ◌+◌, ◌-◌, List, [], ◌∷◌, ◌++◌, Bool, bytes_eq, true, false, None, map, length, take}
use Rattle.std.proofs.Common.{drop, refl, subst, sym, ap, ◌∙◌, codes}
use Rattle.std.specs.Prelude.{Option, option_to_list}
use Rattle.orders.specs.fix_types.Report.{report_fields}
use Rattle.orders.specs.order_law.History.{Entry}
use Rattle.order_machine.specs.fix_fields.Field.{text}
use Rattle.orders.specs.order_law.Told as law
use Rattle.order_machine.specs.OrderRecord.{OrderRecord, last_after, shown_as}
use Rattle.orders.specs.Changes.{changed_by, with_quantities}
use Rattle.orders.specs.declared.change.Change.{Change}
use Rattle.orders.specs.declared.change.Change.TheVariants as changes
use Rattle.orders.specs.declared.requests.Replacing.{Replacing}
use Rattle.orders.specs.Seen.{progressed, replace_seen}
use Rattle.to_client.specs.Pending.{IsPending, cancel_in, messages_in, messages_of}
use Rattle.to_client.proofs.OfOrders.{messages-seen}
use Rattle.to_client.proofs.Rejects.{split-of}
use Rattle.market_messages.proofs.RejectedRow.{none-replacing, the-first}
use Rattle.market_messages.proofs.ReplacedRow.{replace-first, replace-live, replaced-dead, replaced-live}
use Rattle.market_messages.proofs.Tells.{first-told, more-told}
use Rattle.market_messages.proofs.replaced.tell_replaced.Goals as goal

pub returns-then-is_dead-clause-told : goal.returns-then-is_dead-clause-told
returns-then-is_dead-clause-told c =
    let m = c.args.message.now in
    let o = c.args.order.now in
    let client = c.order.inside.client in
    let order_id = c.order.inside.order_id in
    let behind : List Replacing = take (length c.as_slice.result.now - 1) (drop 1 c.as_slice.result.now) in
    let q : Entry = replace_seen client order_id c.oldest-item.result in
    let qs : List Entry = map (replace_seen client order_id) behind in
    let split = split-of c.as_slice.result.now c.oldest-item.result c.oldest-item.is c.in-len1-up.len_at_least in
    let all : o.replaces ≡ q ∷ qs = ap (λ (x : OrderRecord). x.replaces) (sym c.order.view_is)
    ∙ ap (map (replace_seen client order_id)) (sym c.as_slice.ensures ∙ split.all) in
    let same : messages_in behind ≡ messages_of qs = messages-seen client order_id behind in
    let cancel : Option Entry = cancel_in o.cancel in
    let p = c.progress_after-opened.result in
    let is = subst (λ (rs : List Entry). IsPending c.pending_of.result rs cancel (shown_as (progressed p o))) all
    (c.pending_of.ensures.pending p) in
    let opened : progressed p o ≡ with_quantities (changed_by (changes.Replaced m.shares m.price false) o) o =
    c.progress_after-opened.ensures.after ∙ ap
    (λ (x : Change). with_quantities (changed_by x o) o) c.replaced_by.ensures in
    let s : law.Shown = record (shown_as (progressed p o))
    { id = text 11 q.message; pending = qs ++ option_to_list cancel } in
    let shows = c.renamed-shown.ensures c.pending_of.result q qs cancel
    (shown_as (progressed p o)) c.shown_of-whole.ensures is same c.of_replace-request.ensures in
    let own = the-first m.token o q qs (replace-first m o c.requires.may) all in
    let first = first-told c.in_ok-bodies.bodies.items c.push_report.new.bodies.items
    (report_fields c.in_ok-report.report) _ c.in_ok-bodies.ensures.items c.in_ok-push_report.ensures.told
    (c.in_ok-report.ensures q s c.of_replace-request.ensures shows
    ∙ ap (λ (x : OrderRecord). law.report (c.args.issued + 1) (law.on_request (codes "5") q) (record (shown_as x) { id = text 11 q.message; pending = qs ++ option_to_list cancel })) opened) in
    let g = c.progress_after-gone.result in
    let gone : progressed g o ≡ with_quantities (changed_by (changes.Replaced m.shares m.price true) o) o =
    c.progress_after-gone.ensures.after ∙ ap (λ (x : Change). with_quantities (changed_by x o) o)
    c.replaced_by-then-is_dead.ensures in
    let t : law.Shown = record (shown_as (progressed g o))
    { id = text 11 q.message; pending = qs ++ option_to_list cancel } in
    let closed = c.renamed-closed.ensures c.pending_of.result q qs cancel
    (shown_as (progressed g o)) c.shown_of-over.ensures
    (subst (λ (rs : List Entry). IsPending c.pending_of.result rs cancel (shown_as (progressed g o))) all
    (c.pending_of.ensures.pending g)) same c.of_replace-request.ensures in
    more-told c.push_report.new.bodies.items c.push_canceled.new.bodies.items _ _ _ first
    (c.in_ok-push_canceled.ensures.told qs cancel t closed
    (record {
      in_order = refl;
      replaces_are = same;
      cancel_is = is.cancel_is;
      are_replaces =
          is.are_replaces.1;
      is_cancel_set = is.is_cancel_set;
    }))
    (ap (λ (x : OrderRecord). law.cancelled (c.args.issued + 2) None
    (record (shown_as x) { id = text 11 q.message; pending = qs ++ option_to_list cancel })) gone)
    ∙ sym (replaced-dead c.args.issued m o q qs all own (replace-live m o c.requires.may) is.are_replaces.0
    (c.pending_of.ensures.pending p).in_order (sym c.if-is_dead.ensures))

pub returns-clause-told : goal.returns-clause-told
returns-clause-told c =
    let m = c.args.message.now in
    let o = c.args.order.now in
    let client = c.order.inside.client in
    let order_id = c.order.inside.order_id in
    let behind : List Replacing = take (length c.as_slice.result.now - 1) (drop 1 c.as_slice.result.now) in
    let q : Entry = replace_seen client order_id c.oldest-item.result in
    let qs : List Entry = map (replace_seen client order_id) behind in
    let split = split-of c.as_slice.result.now c.oldest-item.result c.oldest-item.is c.in-len1-up.len_at_least in
    let all : o.replaces ≡ q ∷ qs = ap (λ (x : OrderRecord). x.replaces) (sym c.order.view_is)
    ∙ ap (map (replace_seen client order_id)) (sym c.as_slice.ensures ∙ split.all) in
    let same : messages_in behind ≡ messages_of qs = messages-seen client order_id behind in
    let cancel : Option Entry = cancel_in o.cancel in
    let p = c.progress_after-opened.result in
    let is = subst (λ (rs : List Entry). IsPending c.pending_of.result rs cancel (shown_as (progressed p o))) all
    (c.pending_of.ensures.pending p) in
    let opened : progressed p o ≡ with_quantities (changed_by (changes.Replaced m.shares m.price false) o) o =
    c.progress_after-opened.ensures.after ∙ ap
    (λ (x : Change). with_quantities (changed_by x o) o) c.replaced_by.ensures in
    let s : law.Shown = record (shown_as (progressed p o))
    { id = text 11 q.message; pending = qs ++ option_to_list cancel } in
    let shows = c.renamed-shown.ensures c.pending_of.result q qs cancel
    (shown_as (progressed p o)) c.shown_of-whole.ensures is same c.of_replace-request.ensures in
    let own = the-first m.token o q qs (replace-first m o c.requires.may) all in
    let first = first-told c.in_ok-bodies.bodies.items c.push_report.new.bodies.items
    (report_fields c.in_ok-report.report) _ c.in_ok-bodies.ensures.items c.in_ok-push_report.ensures.told
    (c.in_ok-report.ensures q s c.of_replace-request.ensures shows
    ∙ ap (λ (x : OrderRecord). law.report (c.args.issued + 1) (law.on_request (codes "5") q) (record (shown_as x) { id = text 11 q.message; pending = qs ++ option_to_list cancel })) opened) in
    more-told c.push_report.new.bodies.items c.push_cancel_rejected.new.bodies.items _ _ _ first
    (c.in_ok-push_cancel_rejected.ensures.told qs cancel s shows
    (record {
      in_order = refl;
      replaces_are = same;
      cancel_is = is.cancel_is;
      are_replaces =
          is.are_replaces.1;
      is_cancel_set = is.is_cancel_set;
    }))
    (ap (λ (x : Bool). law.cancel_rejected x s) c.is_last-is_last.ensures
    ∙ ap (λ (x : OrderRecord). law.cancel_rejected (last_after (bytes_eq m.previous_token) o.cancel)
    (record (shown_as x) { id = text 11 q.message; pending = qs ++ option_to_list cancel })) opened)
    ∙ sym (replaced-live c.args.issued m o q qs all own (replace-live m o c.requires.may) is.are_replaces.0
    (c.pending_of.ensures.pending p).in_order (sym c.if-is_dead.ensures))
