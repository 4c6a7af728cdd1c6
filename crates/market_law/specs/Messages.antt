-- What the market says, as the messages that the gateway reads. Its clock stands still, and it numbers no orders: each
-- timestamp and each order reference is 0. (OUCH 4.2, "Outbound Messages".)
use Rattle.std.specs.Prelude.{◌≡◌, ℕ, ◌<◌, ◌≤◌, ◌^◌, List, length, codes, slice_index, refl}
use Rattle.order_law.specs.wire_law.Printable.{ArePrintable}
use Rattle.order_law.specs.ouch_codec.declared.inbound.enter_order.EnterOrder.{EnterOrder}
use Rattle.order_law.specs.ouch_codec.declared.inbound.replace.Replace.{Replace}
use Rattle.order_law.specs.ouch_codec.declared.outbound.Outbound.{Outbound}
use Rattle.order_law.specs.ouch_codec.declared.outbound.Outbound.TheVariants as market
use Rattle.order_law.specs.ouch_codec.declared.outbound.replaced.Replaced.{Replaced}
use Rattle.order_law.specs.ouch_codec.declared.order_state.OrderState.{OrderState}
use Rattle.market_law.specs.declared.choice.Breaking.{Breaking}
use Rattle.market_law.specs.declared.choice.Letter.{Letter}
use Rattle.market_law.specs.declared.choice.Trading.{Trading}
use Rattle.market_law.specs.Numbers.{no-time-fits}

-- a token that a message can carry
pub record Token : Type 0 where
  pub bytes : List ℕ
  pub bytes_set : (length bytes ≡ 14) × ArePrintable bytes

-- the token of a new order
abbrev pub entered_token : EnterOrder → Token
entered_token order = record { bytes = order.token; bytes_set = order.token_set }

-- the token that an order is to go by
abbrev pub to_token : Replace → Token
to_token request = record { bytes = request.replacement_token; bytes_set = request.replacement_token_set }

-- the order's own terms. (OUCH 4.2, "Accepted Message".)
abbrev pub accepted_by : EnterOrder → OrderState → Outbound
accepted_by order state = market.Accepted (record {
  timestamp = 0;
  token = order.token;
  side = order.side;
  shares = order.shares;
  stock = order.stock;
  price = order.price;
  time_in_force = order.time_in_force;
  firm = order.firm;
  display = order.display;
  order_reference = 0;
  capacity = order.capacity;
  intermarket_sweep = order.intermarket_sweep;
  minimum_quantity = order.minimum_quantity;
  cross_type = order.cross_type;
  order_state = state;
  bbo_weight = slice_index (codes " ") 0;
  timestamp_set = no-time-fits;
  token_set = order.token_set;
  shares_set = order.shares_set;
  stock_set = order.stock_set;
  price_set = order.price_set;
  time_in_force_set = order.time_in_force_set;
  firm_set = order.firm_set;
  display_set = order.display_set;
  order_reference_set = no-time-fits;
  capacity_set = order.capacity_set;
  intermarket_sweep_set = order.intermarket_sweep_set;
  minimum_quantity_set = order.minimum_quantity_set;
  cross_type_set = order.cross_type_set;
  bbo_weight_set = refl;
})

-- The request's terms with so many shares open; what a Replace Order doesn't say is the order's. (OUCH 4.2, "Replaced
-- Message".)
abbrev pub replaced_with : EnterOrder → Replace → (shares : ℕ) → (1 ≤ shares) × (shares ≤ 999_999)
    → OrderState → Replaced
replaced_with order request shares shares_set state = record {
  timestamp = 0;
  token = request.replacement_token;
  side = order.side;
  shares = shares;
  stock = order.stock;
  price = request.price;
  time_in_force = request.time_in_force;
  firm = order.firm;
  display = request.display;
  order_reference = 0;
  capacity = order.capacity;
  intermarket_sweep = request.intermarket_sweep;
  minimum_quantity = request.minimum_quantity;
  cross_type = order.cross_type;
  order_state = state;
  previous_token = request.token;
  bbo_weight = slice_index (codes " ") 0;
  timestamp_set = no-time-fits;
  token_set = request.replacement_token_set;
  shares_set = shares_set;
  stock_set = order.stock_set;
  price_set = request.price_set;
  time_in_force_set = request.time_in_force_set;
  firm_set = order.firm_set;
  display_set = request.display_set;
  order_reference_set = no-time-fits;
  capacity_set = order.capacity_set;
  intermarket_sweep_set = request.intermarket_sweep_set;
  minimum_quantity_set = request.minimum_quantity_set;
  cross_type_set = order.cross_type_set;
  previous_token_set = request.token_set;
  bbo_weight_set = refl;
}

abbrev pub replaced_by : EnterOrder → Replace → (shares : ℕ) → (1 ≤ shares) × (shares ≤ 999_999) → OrderState
    → Outbound
replaced_by order request shares shares_set state =
    market.Replaced (replaced_with order request shares shares_set state)

-- reason `U`, by the user. (OUCH 4.2, "Canceled Message".)
abbrev pub canceled : Token → (shares : ℕ) → shares < 2 ^ 32 → Outbound
canceled token shares shares_set = market.Canceled (record {
  timestamp = 0;
  token = token.bytes;
  decrement = shares;
  reason = slice_index (codes "U") 0;
  timestamp_set = no-time-fits;
  token_set = token.bytes_set;
  decrement_set = shares_set;
  reason_set = refl;
})

-- liquidity `A`, added. (OUCH 4.2, "Executed Order Message".)
abbrev pub executed : Token → Trading → (match_number : ℕ) → match_number < 2 ^ 64 → Outbound
executed token trading match_number match_number_set = market.Executed (record {
  timestamp = 0;
  token = token.bytes;
  shares = trading.shares;
  price = trading.price;
  liquidity = slice_index (codes "A") 0;
  match_number = match_number;
  timestamp_set = no-time-fits;
  token_set = token.bytes_set;
  shares_set = trading.shares_set;
  price_set = trading.price_set;
  liquidity_set = refl;
  match_number_set = match_number_set;
})

-- reason `E`, erroneous. (OUCH 4.2, "Broken Trade Message".)
abbrev pub broken_trade : Token → Breaking → Outbound
broken_trade token breaking = market.Broken (record {
  timestamp = 0;
  token = token.bytes;
  match_number = breaking.match_number;
  reason = slice_index (codes "E") 0;
  timestamp_set = no-time-fits;
  token_set = token.bytes_set;
  match_number_set = breaking.match_number_set;
  reason_set = refl;
})

abbrev pub rejected : Token → Letter → Outbound
rejected token reason = market.Rejected (record {
  timestamp = 0;
  token = token.bytes;
  reason = reason.byte;
  timestamp_set = no-time-fits;
  token_set = token.bytes_set;
  reason_set = reason.byte_set;
})

abbrev pub cancel_pending : Token → Outbound
cancel_pending token = market.CancelPending (record {
  timestamp = 0;
  token = token.bytes;
  timestamp_set = no-time-fits;
  token_set = token.bytes_set;
})

abbrev pub cancel_reject : Token → Outbound
cancel_reject token = market.CancelReject (record {
  timestamp = 0;
  token = token.bytes;
  timestamp_set = no-time-fits;
  token_set = token.bytes_set;
})

abbrev pub system_event : Letter → Outbound
system_event event = market.SystemEvent (record {
  timestamp = 0;
  event = event.byte;
  timestamp_set = no-time-fits;
  event_set = event.byte_set;
})
