-- The verdict of the rows on a new order's fields, one row after another.
use Rattle.std.proofs.Common.{◌≡◌, Bool, true, false, ℕ, ◌-◌, List, [], ◌∷◌, ◌++◌, length, replicate, refl, sym, ap}
use Rattle.std.proofs.Common.{◌∙◌}
use Rattle.std.specs.Prelude.{◌&&◌, not, nat_le, is_ok, bytes_eq, codes, Result, Ok, Some, unwrap_or}
use Rattle.std.specs.List.{list_all}
use Rattle.std.specs.Result.{result_unwrap_or}
use Rattle.wire_law.specs.Printable.{is_visible}
use Rattle.fixed_point.specs.Decimal.{price, quantity}
use Rattle.fixed_point.specs.declared.refusal.DecimalRefusal.{DecimalRefusal}
use Rattle.fix_types.specs.declared.new_order.NewOrder.{NewOrder}
use Rattle.fix_values.specs.Slots.{char_text}
use Rattle.fix_types.specs.NewOrder.{new_order_fields}
use Rattle.order_law.specs.Verdicts.{Row, first_row, field_rows, sides, life_times_of_new, capacities, is_symbol}
use Rattle.to_market.specs.declared.refusal.Refusal.TheVariants as refusals
use Rattle.to_market.specs.Refusals.{refused_by}
use Rattle.to_market.specs.FieldRows.{is_among, is_none_of, is_no_minimum, refusal_row}
use Rattle.to_market.specs.FieldRows.{life_time, display, minimum, minimum_said}
use Rattle.to_market.specs.NewAsks.{AsksAs}
use Rattle.to_market.specs.declared.new_ask.NewAsk.{NewAsk}
use Rattle.to_market.proofs.Rows.{price_rows_of}
use Rattle.to_market.proofs.Fields.{table, field_rows-fields, character-fields, symbol-fields, total_of-fields}
use Rattle.to_market.proofs.Fields.{limit_of-fields, life_time_of-fields, display_of-fields, capacity_of-fields}
use Rattle.to_market.proofs.Fields.{minimum_of-fields}
use Rattle.order_law.specs.Asks.{LifeTime, side_of_letter, life_time_of_seconds}
use Rattle.ouch_codec.specs.Letters.{side_letter}
use Rattle.ouch_codec.specs.Parts.{unpadded}
use Rattle.ouch_codec.specs.PartLaws.{unpadded-padded}
use Rattle.ouch_codec.specs.MessageLaws.{both}

-- the rows before those on 38, 110 and 44 don't hold
pub record PassesTerms (m : NewOrder) : Type 0 where
  pub side : is_among sides (m.side ∷ []) ≡ true
  pub symbol : is_symbol m.symbol ≡ true
  pub type : bytes_eq (m.ord_type ∷ []) (codes "2") ≡ true
  pub life_time : is_none_of life_times_of_new (char_text m.time_in_force) ≡ false
  pub instruction : is_none_of (codes "6" ∷ []) m.exec_inst ≡ false
  pub capacity : is_none_of capacities (char_text m.order_capacity) ≡ false

-- then those decide
abbrev amounts : (quantity minimum : Bool) → List Row → List Row
amounts quantity minimum prices = refusal_row quantity refusals.Quantity ∷ refusal_row minimum refusals.MinimumQuantity
    ∷ prices

pub by_amounts : (m : NewOrder) → PassesTerms m
    → first_row (field_rows (new_order_fields m))
    ≡ first_row (amounts (not (is_ok (quantity 1 m.order_qty)))
    (is_no_minimum (result_unwrap_or (quantity 1 m.order_qty) 0) m.min_qty) (price_rows_of m.price))
unfolding table
by_amounts m passes = ap first_row (field_rows-fields m)
    ∙ rw (passes.side, passes.symbol, passes.type, passes.life_time, passes.instruction, passes.capacity) refl

pub by_quantity : (m : NewOrder) → PassesTerms m → is_ok (quantity 1 m.order_qty) ≡ false
    → first_row (field_rows (new_order_fields m)) ≡ refused_by refusals.Quantity
by_quantity m passes unread = by_amounts m passes ∙ rw unread refl

-- with shares read
pub by_minimum : (m : NewOrder) (shares : ℕ) → PassesTerms m
    → ◌≡◌ {A = Result ℕ DecimalRefusal} (quantity 1 m.order_qty) (Ok shares) → is_no_minimum shares m.min_qty ≡ true
    → first_row (field_rows (new_order_fields m)) ≡ refused_by refusals.MinimumQuantity
by_minimum m shares passes said bad = by_amounts m passes ∙ rw (said, bad) refl

-- and a minimum
pub by_price : (m : NewOrder) (shares : ℕ) → PassesTerms m
    → ◌≡◌ {A = Result ℕ DecimalRefusal} (quantity 1 m.order_qty) (Ok shares) → is_no_minimum shares m.min_qty ≡ false
    → first_row (field_rows (new_order_fields m)) ≡ first_row (price_rows_of m.price)
by_price m shares passes said good = by_amounts m passes ∙ rw (said, good) refl

unpadded-symbol : (symbol : List ℕ) → is_symbol symbol ≡ true
    → unpadded (symbol ++ replicate (8 - length symbol) 32) ≡ symbol
unpadded-symbol symbol good = unpadded-padded symbol (8 - length symbol)
    (both (nat_le (length symbol) 8) (list_all is_visible symbol)
    (both (nat_le 1 (length symbol)) (nat_le (length symbol) 8 && list_all is_visible symbol) good).1).1

-- an ask that has what each field says
pub record HasFields (ask : NewAsk) (own : ℕ) (m : NewOrder) : Type 0 where
  pub side : side_of_letter (side_letter ask.side) ≡ Some m.side
  pub shares : ◌≡◌ {A = Result ℕ DecimalRefusal} (quantity 1 m.order_qty) (Ok ask.shares)
  pub stock : ask.stock ≡ m.symbol ++ replicate (8 - length m.symbol) 32
  pub price : ◌≡◌ {A = Result ℕ DecimalRefusal} (price (unwrap_or m.price [])) (Ok ask.price)
  pub life_time : life_time_of_seconds ask.time_in_force ≡ Some (life_time (char_text m.time_in_force))
  pub display : ask.display ≡ display m.exec_inst
  pub capacity : ask.capacity ≡ unwrap_or m.order_capacity own
  pub minimum : ask.minimum_quantity ≡ minimum_said (char_text m.time_in_force) ask.shares (minimum m.min_qty)

-- says what the message asks
pub AsksAs-fields : (ask : NewAsk) (own : ℕ) (m : NewOrder) → is_symbol m.symbol ≡ true → HasFields ask own m
    → AsksAs ask own (new_order_fields m)
AsksAs-fields ask own m good has = record {
  side = has.side ∙ ap (λ (b : ℕ). Some b) (sym (character-fields m));
  shares = sym (total_of-fields m ∙ ap (λ (r : Result ℕ DecimalRefusal). result_unwrap_or r 0) has.shares);
  stock = has.stock ∙ ap (λ (t : List ℕ). t ++ replicate (8 - length t) 32) (sym (symbol-fields m));
  symbol = ap unpadded has.stock ∙ unpadded-symbol m.symbol good ∙ sym (symbol-fields m);
  price = sym (limit_of-fields m ∙ ap (λ (r : Result ℕ DecimalRefusal). result_unwrap_or r 0) has.price);
  life_time = has.life_time ∙ ap (λ (l : LifeTime). Some l) (sym (life_time_of-fields m));
  display = has.display ∙ sym (display_of-fields m);
  capacity = has.capacity ∙ sym (capacity_of-fields own m);
  minimum = has.minimum ∙ ap (λ (r : Result ℕ DecimalRefusal). minimum_said (char_text m.time_in_force)
      (result_unwrap_or r 0) (minimum m.min_qty)) (sym has.shares) ∙ sym (minimum_of-fields m);
}
