-- What an order that a request names is to the table of requests.
use Rattle.std.specs.Prelude.{◌≡◌, Bool, true, false, ◌||◌, [], ◌∷◌, length, Option, Some, None}
use Rattle.fix_types.specs.declared.replace_request.ReplaceRequest.{ReplaceRequest}
use Rattle.fix_values.specs.Slots.{char_text}
use Rattle.order_law.specs.Chain.{has_pending_cancel}
use Rattle.order_law.specs.Chain as chain
use Rattle.order_law.specs.Verdicts.{Accepted, Named, Port, first_row, has_to_wait, port_rows}
use Rattle.to_market.specs.declared.named_order.NamedOrder.{NamedOrder}
use Rattle.to_market.specs.FieldRows.{is_none_of}

-- the value has all that the rows read of an order
pub record HasRead (n : Named) (o : NamedOrder) : Type 0 where
  pub side : n.side ≡ o.side ∷ []
  pub symbol : n.symbol ≡ o.symbol.now
  pub capacity : n.capacity ≡ o.capacity
  pub is_closed : n.reading.is_closed ≡ o.is_closed
  pub executed : n.reading.executed ≡ o.executed
  pub cancel : has_pending_cancel n.chain ≡ o.has_pending_cancel
  pub pending : length (chain.replaces n.chain) ≡ o.pending_replaces
  pub replaces : n.replaces ≡ o.replaces

-- the same, where an order is named
abbrev pub IsRead : Option Named → Option NamedOrder → Type 0
IsRead None None = Unit {0}
IsRead None (Some o) = ⊥
IsRead (Some n) None = ⊥
IsRead (Some n) (Some o) = HasRead n o

-- a replace gives another side, symbol or capacity than the order has
abbrev pub changes_terms : NamedOrder → ReplaceRequest → Bool
changes_terms o m =
    is_none_of ((o.side ∷ []) ∷ []) (char_text m.side)
    || (is_none_of (o.symbol.now ∷ []) m.symbol || is_none_of ((o.capacity ∷ []) ∷ []) (char_text m.order_capacity))

-- the rows before those that a replace alone has don't hold
pub record ReachesTerms (is_used : Bool) (n : Named) (port : Port) : Type 0 where
  pub is_new : is_used ≡ false
  pub is_open : n.reading.is_closed ≡ false
  pub takes_orders : first_row (port_rows port) ≡ Accepted
  pub may : has_to_wait true n.chain ≡ false
