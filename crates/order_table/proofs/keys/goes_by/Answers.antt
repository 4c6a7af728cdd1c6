use Rattle.std.proofs.Common.{◌≡◌, List, ℕ, Bool, true, false, ◌||◌, map, sym, ap, ◌∙◌}
use Rattle.std.specs.Prelude.{bytes_eq, option_map}
use Rattle.std.specs.List.{list_any}
use Rattle.order_machine.specs.OrderRecord.{OrderRecord, chained}
use Rattle.undo_orders.specs.Seen.{cancel_seen, has_cancel_id, replace_seen}
use Rattle.undo_orders.specs.orders.order_law.Chain.{goes_by}
use Rattle.undo_orders.specs.orders.declared.requests.Replacing.{Replacing}
use Rattle.order_table.specs.Keys.{is_of_replacing}
use Rattle.order_table.proofs.Named.{has-any, second, third}
use Rattle.order_table.proofs.keys.goes_by.Goals as goal

pub returns-then-is_of_replaces : goal.returns-then-is_of_replaces
returns-then-is_of_replaces c =
    let o = c.order.inside in
    let id = c.args.id.now in
    let any : c.is_of_replaces.result ≡ list_any (is_of_replacing id) o.replaces =
    c.is_of_replaces.ensures ∙ ap (λ (rs : List Replacing). list_any (is_of_replacing id) rs) c.as_slice-else-eq.ensures
    in
    c.if-is_of_replaces.true
    ∙ sym (second (bytes_eq o.cl_ord_id id) (list_any (is_of_replacing id) o.replaces)
    (has_cancel_id id (option_map (cancel_seen o.client o.order_id) o.cancel)) (sym any ∙ c.if-is_of_replaces.true))
    ∙ ap (λ (b : Bool). bytes_eq o.cl_ord_id id || b)
    (has-any id o.client o.order_id o.replaces (option_map (cancel_seen o.client o.order_id) o.cancel))
    ∙ ap (λ (r : OrderRecord). goes_by id (chained r)) c.order.view_is

pub returns-else-is_of_replaces : goal.returns-else-is_of_replaces
returns-else-is_of_replaces c =
    let o = c.order.inside in
    let id = c.args.id.now in
    let any : c.is_of_replaces.result ≡ list_any (is_of_replacing id) o.replaces =
    c.is_of_replaces.ensures ∙ ap (λ (rs : List Replacing). list_any (is_of_replacing id) rs) c.as_slice-else-eq.ensures
    in
    let own : bytes_eq o.cl_ord_id id ≡ false =
    ap (λ (bs : List ℕ). bytes_eq bs id) (sym c.as_slice.ensures.bytes) ∙ sym c.eq.ensures ∙ c.if-eq.false in
    c.is_of_cancel.ensures o.client o.order_id
    ∙ third (bytes_eq o.cl_ord_id id) (list_any (is_of_replacing id) o.replaces)
    (has_cancel_id id (option_map (cancel_seen o.client o.order_id) o.cancel)) own
    (sym any ∙ c.if-is_of_replaces.false)
    ∙ ap (λ (b : Bool). bytes_eq o.cl_ord_id id || b)
    (has-any id o.client o.order_id o.replaces (option_map (cancel_seen o.client o.order_id) o.cancel))
    ∙ ap (λ (r : OrderRecord). goes_by id (chained r)) c.order.view_is
