use Rattle.std.proofs.Common.{◌≡◌, ◌++◌, Bool, true, [], ◌∷◌, map, refl, sym, ap, ◌∙◌, bytes_eq}
use Rattle.std.specs.List.{list_any}
use Rattle.std.specs.Prelude.{Option, not, option_to_list}
use Rattle.std.proofs.lemmas.Bool.{and_parts}
use Rattle.orders.specs.fix_types.Application.{body_fields}
use Rattle.orders.specs.order_law.History.{Entry}
use Rattle.orders.specs.order_law.Lawful.{is_first}
use Rattle.orders.specs.order_law.Life.{is_closed}
use Rattle.orders.specs.order_law.Told as law
use Rattle.order_machine.specs.OrderRecord.{OrderRecord, last_after, replacements, shown_as}
use Rattle.orders.specs.Changes.{changed_by, with_quantities}
use Rattle.orders.specs.declared.change.Change.TheVariants as changes
use Rattle.orders.specs.Seen.{progressed}
use Rattle.to_client.specs.Pending.{cancel_in}
use Rattle.to_client.proofs.Answered.{behind, rest-shows}
use Rattle.market_messages.proofs.RejectedRow.{not_replaced-told}
use Rattle.market_messages.proofs.Tells.{only-told}
use Rattle.market_messages.proofs.rejected.tell_not_replaced.Goals as goal

pub returns-clause-told : goal.returns-clause-told
returns-clause-told c = λ issued.
    let m = c.args.message.now in
    let o = c.args.order.now in
    let p = c.progress_after-progress.result in
    let s : law.Shown = shown_as (progressed p o) in
    let cancel : Option Entry = cancel_in o.cancel in
    let is = c.pending_of-pending.ensures.pending p in
    let rest : law.Shown = record s { pending = option_to_list cancel } in
    let shows = rest-shows c.shown_of-shown.result c.pending_of-pending.result o.replaces cancel s
    c.shown_of-shown.ensures is in
    let first : is_first m.token (replacements o.replaces) ≡ true =
    (and_parts (is_first m.token (replacements o.replaces)) (not (is_closed o.stage)) c.requires.may).0 in
    let same : progressed p o ≡ with_quantities (changed_by changes.NotReplaced o) o =
    c.progress_after-progress.ensures.after in
    only-told c.in_ok-bodies.bodies.items c.push_cancel_rejected.new.bodies.items _ _ c.in_ok-bodies.ensures.items
    (behind (map body_fields c.in_ok-bodies.bodies.items) [] (map body_fields c.push_not_replaced.new.bodies.items)
    (map body_fields c.push_cancel_rejected.new.bodies.items) _ _
    (c.in_ok-push_not_replaced.ensures.told o.replaces cancel s c.shown_of-shown.ensures is)
    (c.in_ok-push_cancel_rejected.ensures.told [] cancel rest shows
    (record {
      in_order = refl;
      replaces_are = refl;
      cancel_is = is.cancel_is;
      are_replaces = tt;
      is_cancel_set =
          is.is_cancel_set;
    })))
    (ap (λ (x : Bool). law.each_not_replaced (m.reason ∷ []) s s.pending ++ law.cancel_rejected x rest)
    c.is_last_of_replaces-is_last.ensures
    ∙ ap (λ (r : OrderRecord). law.each_not_replaced (m.reason ∷ []) (shown_as r) (shown_as r).pending
    ++ law.cancel_rejected (last_after (λ token. list_any (bytes_eq token) (replacements o.replaces)) o.cancel)
    (record (shown_as r) { pending = option_to_list cancel })) same
    ∙ sym (not_replaced-told issued m o c.requires.not_new first is.are_replaces is.is_cancel_set is.in_order))
