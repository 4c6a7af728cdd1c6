-- The value of each tag in the fields of a replace request.
use Rattle.std.proofs.Common.{◌≡◌, ℕ, List, [], ◌∷◌, refl}
use Rattle.std.specs.Prelude.{Option, Some, None}
use Rattle.std.specs.Option.{option_or}
use Rattle.fix_values.specs.Field.{first_value}
use Rattle.fix_values.specs.Slots.{char_text, text_of}
use Rattle.fix_values.proofs.Lookups.{lookup, value_in, text_in}
use Rattle.fix_types.specs.declared.replace_request.ReplaceRequest.{ReplaceRequest}
use Rattle.fix_types.specs.ReplaceRequest.{replace_request_slots, replace_request_fields}

abbrev pub Has : ℕ → Option (List ℕ) → ReplaceRequest → Type 0
Has tag value m = first_value tag (replace_request_fields m) ≡ value

-- of a tag that one slot alone has
value_is : (tag : ℕ) (m : ReplaceRequest) (value : Option (List ℕ))
    → lookup tag (replace_request_slots m) ≡ option_or value None → Has tag value m
value_is tag m value e = value_in tag (replace_request_slots m) value e

pub kind-value : (m : ReplaceRequest) → Has 35 (Some (71 ∷ [])) m
kind-value m = value_is 35 m (Some (71 ∷ [])) refl

pub id-value : (m : ReplaceRequest) → Has 11 (Some m.cl_ord_id) m
id-value m = value_is 11 m (Some m.cl_ord_id) refl

pub original-value : (m : ReplaceRequest) → Has 41 (Some m.orig_cl_ord_id) m
original-value m = value_is 41 m (Some m.orig_cl_ord_id) refl

pub side-value : (m : ReplaceRequest) → Has 54 (char_text m.side) m
side-value m = value_is 54 m (char_text m.side) refl

pub symbol-value : (m : ReplaceRequest) → Has 55 m.symbol m
symbol-value m = value_is 55 m m.symbol refl

pub quantity-value : (m : ReplaceRequest) → Has 38 (Some m.order_qty) m
quantity-value m = value_is 38 m (Some m.order_qty) refl

pub type-value : (m : ReplaceRequest) → Has 40 (Some (m.ord_type ∷ [])) m
type-value m = value_is 40 m (Some (m.ord_type ∷ [])) refl

pub price-value : (m : ReplaceRequest) → Has 44 m.price m
price-value m = value_is 44 m m.price refl

pub life_time-value : (m : ReplaceRequest) → Has 59 (char_text m.time_in_force) m
life_time-value m = value_is 59 m (char_text m.time_in_force) refl

pub instruction-value : (m : ReplaceRequest) → Has 18 m.exec_inst m
instruction-value m = value_is 18 m m.exec_inst refl

pub capacity-value : (m : ReplaceRequest) → Has 528 (char_text m.order_capacity) m
capacity-value m = value_is 528 m (char_text m.order_capacity) refl

pub minimum-value : (m : ReplaceRequest) → Has 110 m.min_qty m
minimum-value m = value_is 110 m m.min_qty refl

pub id-text : (m : ReplaceRequest) → text_of 11 (replace_request_fields m) ≡ m.cl_ord_id
id-text m = text_in 11 (replace_request_fields m) m.cl_ord_id (id-value m)

pub original-text : (m : ReplaceRequest) → text_of 41 (replace_request_fields m) ≡ m.orig_cl_ord_id
original-text m = text_in 41 (replace_request_fields m) m.orig_cl_ord_id (original-value m)
