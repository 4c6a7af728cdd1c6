-- NewOrderSingle as fields. (FIX 4.4 Volume 4, "New Order - Single".)
use Rattle.std.specs.Prelude.{◌≡◌, true, List, [], ◌∷◌}
use Rattle.fix_values.specs.Field.{Field, first_value}
use Rattle.fix_values.specs.declared.format.Format.TheVariants as formats
use Rattle.fix_types.specs.declared.new_order.NewOrder.{NewOrder}
use Rattle.fix_values.specs.Texts.{is_cl_ord_id, is_float}
use Rattle.fix_values.specs.Formats.{passes}
use Rattle.fix_values.specs.Slots.{FieldSlot, slot, field_slot, fields_of_slots, char_text, text_of, char_of}
use Rattle.fix_values.specs.Slots.{optional_char}

-- the fields that a new order is written as, in their order
abbrev pub new_order_slots : NewOrder → List FieldSlot
new_order_slots m =
    field_slot 35 (68 ∷ [])
    ∷ field_slot 11 m.cl_ord_id
    ∷ field_slot 54 (m.side ∷ [])
    ∷ field_slot 55 m.symbol
    ∷ field_slot 38 m.order_qty
    ∷ field_slot 40 (m.ord_type ∷ [])
    ∷ slot 44 m.price
    ∷ slot 59 (char_text m.time_in_force)
    ∷ slot 18 m.exec_inst
    ∷ slot 528 (char_text m.order_capacity)
    ∷ slot 110 m.min_qty
    ∷ []

abbrev pub new_order_fields : NewOrder → List Field
new_order_fields m = fields_of_slots (new_order_slots m)

-- the new order that fields say
abbrev pub new_order_of : List Field → NewOrder
new_order_of fs = record {
  cl_ord_id = text_of 11 fs;
  side = char_of 54 fs;
  symbol = text_of 55 fs;
  order_qty = text_of 38 fs;
  ord_type = char_of 40 fs;
  price = first_value 44 fs;
  time_in_force = optional_char 59 fs;
  exec_inst = first_value 18 fs;
  order_capacity = optional_char 528 fs;
  min_qty = first_value 110 fs;
}

-- what each new order keeps
pub record IsNewOrder (m : NewOrder) : Type 0 where
  pub cl_ord_id : is_cl_ord_id m.cl_ord_id ≡ true
  pub order_qty : is_float m.order_qty ≡ true
  pub price : passes formats.Float m.price ≡ true
  pub min_qty : passes formats.Float m.min_qty ≡ true
