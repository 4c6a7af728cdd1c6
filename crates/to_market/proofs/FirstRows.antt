-- The verdict on a replace that reaches the rows that it alone has.
use Rattle.std.proofs.Common.{◌≡◌, Bool, false, ℕ, ◌∙◌}
use Rattle.std.specs.Prelude.{◌||◌, nat_le, Option, Some, None, Result}
use Rattle.fix_types.specs.declared.replace_request.ReplaceRequest.{ReplaceRequest}
use Rattle.fix_types.specs.ReplaceRequest.{replace_request_fields}
use Rattle.order_law.specs.Verdicts.{Accepted, Named, Port, first_row, most_pending, port_rows, rows_of_request}
use Rattle.to_market.specs.declared.named_order.NamedOrder.{NamedOrder}
use Rattle.to_market.specs.declared.refusal.Refusal.{Refusal}
use Rattle.to_market.specs.Names.{HasRead, IsRead, ReachesTerms}
use Rattle.to_market.specs.declared.replace_ask.ReplaceAsk.{ReplaceAsk}
use Rattle.to_market.specs.Refusals.{Decides}

reaches_terms : (used : Bool) (n : Named) (o : NamedOrder) (port : Port) → HasRead n o → used ≡ false
    → o.is_closed ≡ false → first_row (port_rows port) ≡ Accepted
    → (o.has_pending_cancel || nat_le most_pending o.pending_replaces) ≡ false → ReachesTerms used n port
reaches_terms used n o port read is_new is_open takes answered = record {
  is_new = is_new;
  is_open = read.is_closed ∙ is_open;
  takes_orders = takes;
  may = rw (read.cancel, read.pending) answered;
}

-- of a replace that reaches its own rows
pub by_own_rows : (used : Bool) (order : Option NamedOrder) (o : NamedOrder) (port : Port) (given : ℕ)
    (m : ReplaceRequest) (result : Result ReplaceAsk Refusal)
    → order ≡ Some o → used ≡ false → o.is_closed ≡ false → first_row (port_rows port) ≡ Accepted
    → (o.has_pending_cancel || nat_le most_pending o.pending_replaces) ≡ false
    → ((used : Bool) (n : Named) (port : Port) → ReachesTerms used n port → HasRead n o
    → Decides result (first_row (rows_of_request used (Some n) port given (replace_request_fields m))))
    → (n : Option Named) → IsRead n order → Decides result
    (first_row (rows_of_request used n port given (replace_request_fields m)))
by_own_rows used order o port given m result is_order is_new is_open takes answered own n read =
    on_known n (rw is_order at read)
  where
    on_known : (n : Option Named) → IsRead n (Some o)
        → Decides result (first_row (rows_of_request used n port given (replace_request_fields m)))
    on_known None h = absurd h
    on_known (Some named) h = own used named port (reaches_terms used named o port h is_new is_open takes answered) h
