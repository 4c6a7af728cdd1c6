-- The value of each tag in the fields of a reject.
use Rattle.std.proofs.Common.{◌≡◌, ℕ, List, [], ◌∷◌, refl, decimal}
use Rattle.std.specs.Prelude.{Option, Some, None}
use Rattle.std.specs.Option.{option_or}
use Rattle.fix_values.specs.Field.{first_value}
use Rattle.fix_values.specs.Letters.{response_letter, status_letter}
use Rattle.fix_values.specs.Slots.{order_id_text}
use Rattle.fix_values.proofs.Lookups.{lookup, value_in}
use Rattle.fix_types.specs.declared.cancel_reject.CancelReject.{CancelReject}
use Rattle.fix_types.specs.CancelReject.{cancel_reject_slots, cancel_reject_fields}

abbrev pub Has : ℕ → Option (List ℕ) → CancelReject → Type 0
Has tag value m = first_value tag (cancel_reject_fields m) ≡ value

-- of a tag that one slot alone has
value_is : (tag : ℕ) (m : CancelReject) (value : Option (List ℕ))
    → lookup tag (cancel_reject_slots m) ≡ option_or value None → Has tag value m
value_is tag m value e = value_in tag (cancel_reject_slots m) value e

pub kind-value : (m : CancelReject) → Has 35 (Some (57 ∷ [])) m
kind-value m = value_is 35 m (Some (57 ∷ [])) refl

pub order-value : (m : CancelReject) → Has 37 (Some (order_id_text m.order_id)) m
order-value m = value_is 37 m (Some (order_id_text m.order_id)) refl

pub id-value : (m : CancelReject) → Has 11 (Some m.cl_ord_id) m
id-value m = value_is 11 m (Some m.cl_ord_id) refl

pub original-value : (m : CancelReject) → Has 41 (Some m.orig_cl_ord_id) m
original-value m = value_is 41 m (Some m.orig_cl_ord_id) refl

pub status-value : (m : CancelReject) → Has 39 (Some (status_letter m.ord_status ∷ [])) m
status-value m = value_is 39 m (Some (status_letter m.ord_status ∷ [])) refl

pub answered-value : (m : CancelReject) → Has 434 (Some (response_letter m.cxl_rej_response_to ∷ [])) m
answered-value m = value_is 434 m (Some (response_letter m.cxl_rej_response_to ∷ [])) refl

pub code-value : (m : CancelReject) → Has 102 (Some (decimal m.cxl_rej_reason)) m
code-value m = value_is 102 m (Some (decimal m.cxl_rej_reason)) refl

pub why-value : (m : CancelReject) → Has 58 (Some m.text) m
why-value m = value_is 58 m (Some m.text) refl
