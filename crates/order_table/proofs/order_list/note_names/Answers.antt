use Rattle.std.proofs.Common.{◌≡◌, List, [], map, true, true≢false, sym, ap, ◌∙◌, subst}
use Rattle.std.specs.Prelude.{option_map}
use Rattle.undo_index.specs.Hints.{LeadsTo, hint_of}
use Rattle.order_machine.specs.OrderRecord.{OrderRecord}
use Rattle.undo_orders.specs.Seen.{cancel_seen, replace_seen}
use Rattle.order_table.specs.declared.keys.NameKey.{NameKey}
use Rattle.order_table.specs.Keys.{has_name_key, is_key_of_replaces, name_key, same_name}
use Rattle.undo_orders.specs.orders.order_law.History.{Entry}
use Rattle.order_table.proofs.Named.{name-leads}
use Rattle.order_table.proofs.order_list.note_names.Goals as goal

pub returns-clause-leads : goal.returns-clause-leads
returns-clause-leads g c =
    let o = c.order.inside in
    let h = c.note_some.new.names in
    let own = o.cl_ord_id in
    let led : (k : NameKey) → LeadsTo (hint_of same_name c.note.new.self k) c.args.place
    → LeadsTo (hint_of same_name h k) c.args.place =
    λ k e. c.note_some.ensures.keeps k e in
    let none : map (replace_seen o.client o.order_id) o.replaces ≡ [] =
    ap (λ (r : OrderRecord). r.replaces) c.order.view_is ∙ c.requires.none in
    subst (λ (r : OrderRecord). (k : NameKey) → has_name_key k r ≡ true → LeadsTo (hint_of same_name h k) c.args.place)
    c.order.view_is
    (name-leads h o.client own (map (replace_seen o.client o.order_id) o.replaces)
    (option_map (cancel_seen o.client o.order_id) o.cancel) c.args.place
    (led (name_key o.client own) (subst (λ (k : NameKey). LeadsTo (hint_of same_name c.note.new.self k) c.args.place)
    (c.of-own.ensures ∙ ap (name_key o.client) c.as_slice.ensures.bytes) c.note.ensures.leads))
    (λ k t. absurd (true≢false (sym t ∙ ap (λ (qs : List Entry). is_key_of_replaces k o.client qs) none)))
    (λ k t. c.note_some.ensures.leads k (c.key_of_cancel-cancel.ensures o.order_id k t)))
