-- What the bytes of an Enter Order say, by the offsets of its layout, are the fields that it was made of.
use Rattle.std.proofs.Common.{◌≡◌, ℕ, true, List, arith}
use Rattle.std.specs.Prelude.{codes, slice_index}
use Rattle.ouch_codec.specs.declared.inbound.enter_order.EnterOrder.{EnterOrder}
use Rattle.ouch_codec.specs.Letters.{side_letter}
use Rattle.ouch_codec.specs.Layout.{is_message, spelled}
use Rattle.ouch_codec.specs.Layouts.{enter_order_layout}
use Rattle.ouch_codec.specs.Rows.{enter_order_row}
use Rattle.ouch_codec.specs.LaidOut.{written, is_message-written, at_place}
use Rattle.ouch_codec.specs.EnterOrderLaws.{enter_order_laid_out}
use Rattle.ouch_codec.specs.Parts.{type_of, unpadded}
use Rattle.ouch_codec.specs.PartLaws.{byte_at-one, number_at-four, text_at-unpadded}
use Rattle.ouch_codec.specs.ToMarket as said

-- these bytes are an Enter Order that says the fields of this one
pub record SaysEnterOrder (m : EnterOrder) (bytes : List ℕ) : Type 0 where
  pub is_one : is_message enter_order_layout bytes ≡ true
  pub type : type_of bytes ≡ slice_index (codes "O") 0
  pub token : said.token bytes ≡ m.token
  pub side : said.enter_side bytes ≡ side_letter m.side
  pub shares : said.enter_shares bytes ≡ m.shares
  pub stock : said.enter_stock bytes ≡ unpadded m.stock
  pub price : said.enter_price bytes ≡ m.price
  pub time_in_force : said.enter_time_in_force bytes ≡ m.time_in_force
  pub firm : said.enter_firm bytes ≡ m.firm
  pub display : said.enter_display bytes ≡ m.display
  pub capacity : said.enter_capacity bytes ≡ m.capacity
  pub sweep : said.enter_sweep bytes ≡ m.intermarket_sweep
  pub minimum : said.enter_minimum bytes ≡ m.minimum_quantity
  pub cross : said.enter_cross bytes ≡ m.cross_type
  pub customer : said.enter_customer bytes ≡ m.customer_type

-- an Enter Order is written as bytes that say it
pub SaysEnterOrder-written : (m : EnterOrder) → SaysEnterOrder m (spelled enter_order_layout (enter_order_row m))
SaysEnterOrder-written m =
    let bytes = written enter_order_laid_out m in
    let place = at_place enter_order_laid_out m in
    record {
      is_one = is_message-written enter_order_laid_out m;
      type = byte_at-one 0 _ bytes (place 0);
      token = place 1;
      side = byte_at-one 15 _ bytes (place 2);
      shares = number_at-four 16 m.shares bytes (omega (arith, m.shares_set.1)) (place 3);
      stock = text_at-unpadded 20 8 bytes m.stock (place 4);
      price = number_at-four 28 m.price bytes m.price_set (place 5);
      time_in_force = number_at-four 32 m.time_in_force bytes m.time_in_force_set (place 6);
      firm = place 7;
      display = byte_at-one 40 _ bytes (place 8);
      capacity = byte_at-one 41 _ bytes (place 9);
      sweep = byte_at-one 42 _ bytes (place 10);
      minimum = number_at-four 43 m.minimum_quantity bytes m.minimum_quantity_set (place 11);
      cross = byte_at-one 47 _ bytes (place 12);
      customer = byte_at-one 48 _ bytes (place 13);
    }
