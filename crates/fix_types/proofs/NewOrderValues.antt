-- The value of each tag in the fields of a new order.
use Rattle.std.proofs.Common.{◌≡◌, ℕ, List, [], ◌∷◌, refl}
use Rattle.std.specs.Prelude.{Option, Some, None}
use Rattle.std.specs.Option.{option_or}
use Rattle.fix_values.specs.Field.{first_value}
use Rattle.fix_values.specs.Slots.{char_text, text_of}
use Rattle.fix_values.proofs.Lookups.{lookup, value_in, text_in}
use Rattle.fix_types.specs.declared.new_order.NewOrder.{NewOrder}
use Rattle.fix_types.specs.NewOrder.{new_order_slots, new_order_fields}

abbrev pub Has : ℕ → Option (List ℕ) → NewOrder → Type 0
Has tag value m = first_value tag (new_order_fields m) ≡ value

-- of a tag that one slot alone has
value_is : (tag : ℕ) (m : NewOrder) (value : Option (List ℕ)) → lookup tag (new_order_slots m) ≡ option_or value None
    → Has tag value m
value_is tag m value e = value_in tag (new_order_slots m) value e

pub kind-value : (m : NewOrder) → Has 35 (Some (68 ∷ [])) m
kind-value m = value_is 35 m (Some (68 ∷ [])) refl

pub id-value : (m : NewOrder) → Has 11 (Some m.cl_ord_id) m
id-value m = value_is 11 m (Some m.cl_ord_id) refl

pub side-value : (m : NewOrder) → Has 54 (Some (m.side ∷ [])) m
side-value m = value_is 54 m (Some (m.side ∷ [])) refl

pub symbol-value : (m : NewOrder) → Has 55 (Some m.symbol) m
symbol-value m = value_is 55 m (Some m.symbol) refl

pub quantity-value : (m : NewOrder) → Has 38 (Some m.order_qty) m
quantity-value m = value_is 38 m (Some m.order_qty) refl

pub type-value : (m : NewOrder) → Has 40 (Some (m.ord_type ∷ [])) m
type-value m = value_is 40 m (Some (m.ord_type ∷ [])) refl

pub price-value : (m : NewOrder) → Has 44 m.price m
price-value m = value_is 44 m m.price refl

pub life_time-value : (m : NewOrder) → Has 59 (char_text m.time_in_force) m
life_time-value m = value_is 59 m (char_text m.time_in_force) refl

pub instruction-value : (m : NewOrder) → Has 18 m.exec_inst m
instruction-value m = value_is 18 m m.exec_inst refl

pub capacity-value : (m : NewOrder) → Has 528 (char_text m.order_capacity) m
capacity-value m = value_is 528 m (char_text m.order_capacity) refl

pub minimum-value : (m : NewOrder) → Has 110 m.min_qty m
minimum-value m = value_is 110 m m.min_qty refl

pub id-text : (m : NewOrder) → text_of 11 (new_order_fields m) ≡ m.cl_ord_id
id-text m = text_in 11 (new_order_fields m) m.cl_ord_id (id-value m)
