-- What an ask is to a new order, and what the market is asked by it.
use Rattle.std.specs.Prelude.{◌≡◌, ℕ, ◌-◌, List, ◌++◌, length, replicate, Some}
use Rattle.ouch_codec.specs.declared.inbound.enter_order.EnterOrder.{EnterOrder}
use Rattle.ouch_codec.specs.Layout.{spelled}
use Rattle.ouch_codec.specs.Layouts.{enter_order_layout}
use Rattle.ouch_codec.specs.Letters.{side_letter}
use Rattle.ouch_codec.specs.Parts.{unpadded}
use Rattle.ouch_codec.specs.Rows.{enter_order_row}
use Rattle.order_law.specs.fix_fields.Field.{Message, text, character}
use Rattle.order_law.specs.Asks.{Standing, total_of, limit_of, minimum_of, display_of, life_time_of, capacity_of}
use Rattle.order_law.specs.Asks.{asked_by_new, side_of_letter, life_time_of_seconds}
use Rattle.order_law.specs.History.{Asked, SaysNew}
use Rattle.to_market.specs.declared.client_terms.ClientTerms.{ClientTerms}
use Rattle.to_market.specs.declared.new_ask.NewAsk.{NewAsk}

-- An ask says what a new order asks, field by field, of a client that has this capacity of its own.
pub record AsksAs (ask : NewAsk) (own : ℕ) (m : Message) : Type 0 where
  pub side : side_of_letter (side_letter ask.side) ≡ Some (character 54 m)
  pub shares : ask.shares ≡ total_of m
  pub stock : ask.stock ≡ text 55 m ++ replicate (8 - length (text 55 m)) 32
  pub symbol : unpadded ask.stock ≡ text 55 m
  pub price : ask.price ≡ limit_of m
  pub life_time : life_time_of_seconds ask.time_in_force ≡ Some (life_time_of m)
  pub display : ask.display ≡ display_of m
  pub capacity : ask.capacity ≡ capacity_of own m
  pub minimum : ask.minimum_quantity ≡ minimum_of m

-- what never varies between the orders of a client
abbrev pub client_standing : ClientTerms → Standing
client_standing terms = record { firm = terms.firm; customer = terms.customer }

-- what an accepted new order asks of the market, by a token of its own
abbrev pub asked_with : List ℕ → List ℕ → ℕ → Message → Asked
asked_with order token own m = record {
  order = order;
  id = text 11 m;
  said = SaysNew token;
  ask = Some (asked_by_new own m);
}

-- the bytes that an Enter Order is written as
abbrev pub enter_bytes : EnterOrder → List ℕ
enter_bytes enter = spelled enter_order_layout (enter_order_row enter)
