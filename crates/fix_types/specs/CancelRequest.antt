-- OrderCancelRequest as fields. (FIX 4.4 Volume 4, "Order Cancel Request".)
use Rattle.std.specs.Prelude.{◌≡◌, true, List, [], ◌∷◌}
use Rattle.fix_values.specs.Field.{Field}
use Rattle.fix_types.specs.declared.cancel_request.CancelRequest.{CancelRequest}
use Rattle.fix_values.specs.Texts.{is_cl_ord_id}
use Rattle.fix_values.specs.Slots.{FieldSlot, field_slot, fields_of_slots, text_of}

-- the fields that a cancel request is written as, in their order
abbrev pub cancel_request_slots : CancelRequest → List FieldSlot
cancel_request_slots m = field_slot 35 (70 ∷ []) ∷ field_slot 11 m.cl_ord_id ∷ field_slot 41 m.orig_cl_ord_id ∷ []

abbrev pub cancel_request_fields : CancelRequest → List Field
cancel_request_fields m = fields_of_slots (cancel_request_slots m)

-- the cancel request that fields say
abbrev pub cancel_request_of : List Field → CancelRequest
cancel_request_of fs = record { cl_ord_id = text_of 11 fs; orig_cl_ord_id = text_of 41 fs }

-- what each cancel request keeps
pub record IsCancelRequest (m : CancelRequest) : Type 0 where
  pub cl_ord_id : is_cl_ord_id m.cl_ord_id ≡ true
  pub orig_cl_ord_id : is_cl_ord_id m.orig_cl_ord_id ≡ true
