-- OrderCancelReplaceRequest as fields. (FIX 4.4 Volume 4, "Order Cancel/Replace Request".)
use Rattle.std.specs.Prelude.{◌≡◌, true, List, [], ◌∷◌}
use Rattle.fix_values.specs.Field.{Field, first_value}
use Rattle.fix_values.specs.declared.format.Format.TheVariants as formats
use Rattle.fix_types.specs.declared.replace_request.ReplaceRequest.{ReplaceRequest}
use Rattle.fix_values.specs.Texts.{is_cl_ord_id, is_float}
use Rattle.fix_values.specs.Formats.{passes}
use Rattle.fix_values.specs.Slots.{FieldSlot, slot, field_slot, fields_of_slots, char_text, text_of, char_of}
use Rattle.fix_values.specs.Slots.{optional_char}

-- the fields that a replace request is written as, in their order
abbrev pub replace_request_slots : ReplaceRequest → List FieldSlot
replace_request_slots m =
    field_slot 35 (71 ∷ [])
    ∷ field_slot 11 m.cl_ord_id
    ∷ field_slot 41 m.orig_cl_ord_id
    ∷ slot 54 (char_text m.side)
    ∷ slot 55 m.symbol
    ∷ field_slot 38 m.order_qty
    ∷ field_slot 40 (m.ord_type ∷ [])
    ∷ slot 44 m.price
    ∷ slot 59 (char_text m.time_in_force)
    ∷ slot 18 m.exec_inst
    ∷ slot 528 (char_text m.order_capacity)
    ∷ slot 110 m.min_qty
    ∷ []

abbrev pub replace_request_fields : ReplaceRequest → List Field
replace_request_fields m = fields_of_slots (replace_request_slots m)

-- the replace request that fields say
abbrev pub replace_request_of : List Field → ReplaceRequest
replace_request_of fs = record {
  cl_ord_id = text_of 11 fs;
  orig_cl_ord_id = text_of 41 fs;
  side = optional_char 54 fs;
  symbol = first_value 55 fs;
  order_qty = text_of 38 fs;
  ord_type = char_of 40 fs;
  price = first_value 44 fs;
  time_in_force = optional_char 59 fs;
  exec_inst = first_value 18 fs;
  order_capacity = optional_char 528 fs;
  min_qty = first_value 110 fs;
}

-- what each replace request keeps
pub record IsReplaceRequest (m : ReplaceRequest) : Type 0 where
  pub cl_ord_id : is_cl_ord_id m.cl_ord_id ≡ true
  pub orig_cl_ord_id : is_cl_ord_id m.orig_cl_ord_id ≡ true
  pub order_qty : is_float m.order_qty ≡ true
  pub price : passes formats.Float m.price ≡ true
  pub min_qty : passes formats.Float m.min_qty ≡ true
