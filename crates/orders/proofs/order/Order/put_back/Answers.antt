use Rattle.std.proofs.Common.{map, reverse, sym, ap, ◌∙◌}
use Rattle.std.specs.Prelude.{option_map}
use Rattle.orders.specs.contracts.order.Order.{the_view}
use Rattle.orders.specs.PutBack.{with_earlier}
use Rattle.orders.specs.Seen.{cancel_seen, replace_seen, told_seen}
use Rattle.orders.proofs.Marks.{told-of}
use Rattle.orders.proofs.Restoring.{oldest-of, put-back-then, with-earlier-is}
use Rattle.orders.proofs.order.Order.put_back.Goals as goal

pub returns-then-can_have_had : goal.returns-then-can_have_had
returns-then-can_have_had c =
    let e = c.args.earlier in
    let o = c.self.inside in
    with-earlier-is e (the_view o) c.put_id_back.new.cl_ord_id (reverse c.truncate.new.self.items)
    (reverse (map told_seen c.put_trades_back.new.trades))
    (map (replace_seen o.client o.order_id) c.put_requests_back.new.requests)
    (option_map (cancel_seen o.client o.order_id) c.put_requests_back-then-can_have_had.new.requests)
    c.put_id_back.ensures
    (ap reverse c.truncate.ensures.items ∙ oldest-of e.earlier_count o.earlier.items)
    (ap (λ ts. reverse (map told_seen ts)) c.put_trades_back.ensures.trades ∙ told-of e.trades o.trades)
    (ap (map (replace_seen o.client o.order_id)) c.put_requests_back.ensures)
    (ap (option_map (cancel_seen o.client o.order_id)) c.put_requests_back-then-can_have_had.ensures)
    ∙ ap (with_earlier e) c.self.view_is
    ∙ sym (put-back-then e c.args.self.now (sym c.can_have_had.ensures ∙ c.if-can_have_had.true))
