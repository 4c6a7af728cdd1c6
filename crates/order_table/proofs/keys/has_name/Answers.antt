use Rattle.std.proofs.Common.{◌≡◌, List, true, false, map, sym, ap, ◌∙◌}
use Rattle.std.specs.Prelude.{option_map}
use Rattle.std.specs.List.{list_any}
use Rattle.order_machine.specs.OrderRecord.{OrderRecord}
use Rattle.undo_orders.specs.Seen.{cancel_seen, replace_seen}
use Rattle.undo_orders.specs.orders.declared.requests.Replacing.{Replacing}
use Rattle.order_table.specs.Keys.{has_name_key, is_key_of_cancel, is_key_of_replaces, is_key_of_replacing, name_key}
use Rattle.order_table.specs.Keys.{same_name}
use Rattle.order_table.proofs.Named.{keys-any, second, third}
use Rattle.order_table.proofs.keys.has_name.Goals as goal

pub returns-then-is_key_of_replaces : goal.returns-then-is_key_of_replaces
returns-then-is_key_of_replaces c =
    let o = c.order.inside in
    let k = c.args.key.now in
    let any : c.is_key_of_replaces.result ≡ is_key_of_replaces k o.client
    (map (replace_seen o.client o.order_id) o.replaces) =
    c.is_key_of_replaces.ensures ∙ ap (λ (rs : List Replacing). list_any (is_key_of_replacing k o.client) rs)
    c.as_slice-else-eq.ensures ∙ keys-any k o.client o.order_id o.replaces in
    c.if-is_key_of_replaces.true
    ∙ sym (second (same_name k (name_key o.client o.cl_ord_id))
    (is_key_of_replaces k o.client (map (replace_seen o.client o.order_id) o.replaces))
    (is_key_of_cancel k o.client (option_map (cancel_seen o.client o.order_id) o.cancel))
    (sym any ∙ c.if-is_key_of_replaces.true))
    ∙ ap (λ (r : OrderRecord). has_name_key k r) c.order.view_is

pub returns-else-is_key_of_replaces : goal.returns-else-is_key_of_replaces
returns-else-is_key_of_replaces c =
    let o = c.order.inside in
    let k = c.args.key.now in
    let any : c.is_key_of_replaces.result ≡ is_key_of_replaces k o.client
    (map (replace_seen o.client o.order_id) o.replaces) =
    c.is_key_of_replaces.ensures ∙ ap (λ (rs : List Replacing). list_any (is_key_of_replacing k o.client) rs)
    c.as_slice-else-eq.ensures ∙ keys-any k o.client o.order_id o.replaces in
    let own : same_name k (name_key o.client o.cl_ord_id) ≡ false =
    ap (same_name k) (sym (c.of.ensures ∙ ap (name_key o.client) c.as_slice.ensures.bytes)) ∙ sym c.eq.ensures
    ∙ c.if-eq.false in
    c.is_key_of_cancel.ensures o.order_id
    ∙ third (same_name k (name_key o.client o.cl_ord_id))
    (is_key_of_replaces k o.client (map (replace_seen o.client o.order_id) o.replaces))
    (is_key_of_cancel k o.client (option_map (cancel_seen o.client o.order_id) o.cancel)) own
    (sym any ∙ c.if-is_key_of_replaces.false)
    ∙ ap (λ (r : OrderRecord). has_name_key k r) c.order.view_is
