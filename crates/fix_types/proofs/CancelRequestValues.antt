-- The value of each tag in the fields of a cancel request.
use Rattle.std.proofs.Common.{◌≡◌, ℕ, List, [], ◌∷◌, refl}
use Rattle.std.specs.Prelude.{Option, Some, None}
use Rattle.std.specs.Option.{option_or}
use Rattle.fix_values.specs.Field.{first_value}
use Rattle.fix_values.specs.Slots.{text_of}
use Rattle.fix_values.proofs.Lookups.{lookup, value_in, text_in}
use Rattle.fix_types.specs.declared.cancel_request.CancelRequest.{CancelRequest}
use Rattle.fix_types.specs.CancelRequest.{cancel_request_slots, cancel_request_fields}

abbrev pub Has : ℕ → Option (List ℕ) → CancelRequest → Type 0
Has tag value m = first_value tag (cancel_request_fields m) ≡ value

-- of a tag that one slot alone has
value_is : (tag : ℕ) (m : CancelRequest) (value : Option (List ℕ))
    → lookup tag (cancel_request_slots m) ≡ option_or value None → Has tag value m
value_is tag m value e = value_in tag (cancel_request_slots m) value e

pub kind-value : (m : CancelRequest) → Has 35 (Some (70 ∷ [])) m
kind-value m = value_is 35 m (Some (70 ∷ [])) refl

pub id-value : (m : CancelRequest) → Has 11 (Some m.cl_ord_id) m
id-value m = value_is 11 m (Some m.cl_ord_id) refl

pub original-value : (m : CancelRequest) → Has 41 (Some m.orig_cl_ord_id) m
original-value m = value_is 41 m (Some m.orig_cl_ord_id) refl

pub id-text : (m : CancelRequest) → text_of 11 (cancel_request_fields m) ≡ m.cl_ord_id
id-text m = text_in 11 (cancel_request_fields m) m.cl_ord_id (id-value m)

pub original-text : (m : CancelRequest) → text_of 41 (cancel_request_fields m) ≡ m.orig_cl_ord_id
original-text m = text_in 41 (cancel_request_fields m) m.orig_cl_ord_id (original-value m)
