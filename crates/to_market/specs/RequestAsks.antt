-- What an ask is to a replace, and what the market is asked by a replace and by a cancel.
use Rattle.std.specs.Prelude.{◌≡◌, ℕ, List, Some, codes}
use Rattle.std.specs.Str.Parse.{digits_value}
use Rattle.ouch_codec.specs.declared.inbound.cancel.Cancel.{Cancel}
use Rattle.ouch_codec.specs.declared.inbound.replace.Replace.{Replace}
use Rattle.ouch_codec.specs.Layout.{spelled}
use Rattle.ouch_codec.specs.Layouts as layouts
use Rattle.ouch_codec.specs.Rows.{cancel_row, replace_row}
use Rattle.order_law.specs.fix_fields.Field.{Message, text}
use Rattle.order_law.specs.Asks.{total_of, limit_of, minimum_of, display_of, life_time_of, asked_by_request}
use Rattle.order_law.specs.Asks.{life_time_of_seconds}
use Rattle.order_law.specs.History.{Asked, SaysCancel, SaysReplace}
use Rattle.to_market.specs.declared.replace_ask.ReplaceAsk.{ReplaceAsk}

-- An ask says what a replace asks, field by field.
pub record AsksToReplace (ask : ReplaceAsk) (m : Message) : Type 0 where
  pub kind : text 35 m ≡ codes "G"
  pub shares : ask.shares ≡ total_of m
  pub price : ask.price ≡ limit_of m
  pub life_time : life_time_of_seconds ask.time_in_force ≡ Some (life_time_of m)
  pub display : ask.display ≡ display_of m
  pub minimum : ask.minimum_quantity ≡ minimum_of m

-- what an accepted replace of an order asks of the market: from its live token to a token of its own
abbrev pub replace_asked_with : List ℕ → List ℕ → List ℕ → Message → Asked
replace_asked_with order live token m = record {
  order = order;
  id = text 11 m;
  said = SaysReplace live token;
  ask = asked_by_request (digits_value 10 order) m;
}

-- what an accepted cancel of an order asks of the market, by one token
abbrev pub cancel_asked_with : List ℕ → List ℕ → Message → Asked
cancel_asked_with order token m = record {
  order = order;
  id = text 11 m;
  said = SaysCancel token;
  ask = asked_by_request (digits_value 10 order) m;
}

-- the bytes that a Replace Order and a Cancel Order are written as
abbrev pub replace_bytes : Replace → List ℕ
replace_bytes message = spelled layouts.replace_layout (replace_row message)

abbrev pub cancel_bytes : Cancel → List ℕ
cancel_bytes message = spelled layouts.cancel_layout (cancel_row message)
