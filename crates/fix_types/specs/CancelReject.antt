-- OrderCancelReject as fields. (FIX 4.4 Volume 4, "Order Cancel Reject".)
use Rattle.std.specs.Prelude.{◌≡◌, ℕ, ◌<◌, ◌^◌, true, List, [], ◌∷◌, Option, IfSome, decimal}
use Rattle.fix_values.specs.Field.{Field}
use Rattle.fix_values.specs.declared.format.Format.TheVariants as formats
use Rattle.fix_values.specs.declared.format.Row.{Row}
use Rattle.fix_values.specs.fix_fields.declared.session_refusal.SessionRefusal.{SessionRefusal}
use Rattle.fix_types.specs.declared.cancel_reject.CancelReject.{CancelReject}
use Rattle.fix_values.specs.Texts.{is_cl_ord_id}
use Rattle.fix_values.specs.Letters.{response_letter, response_of, status_letter, ord_status_of}
use Rattle.fix_values.specs.Formats.{first_refusal}
use Rattle.fix_values.specs.Slots.{FieldSlot, field_slot, fields_of_slots, order_id_text, text_of, char_of}
use Rattle.fix_values.specs.Slots.{number_of_tag, order_id_at}

-- the tags that have to be there, in the order in which they are judged
abbrev pub cancel_reject_tags : List ℕ
cancel_reject_tags = 37 ∷ 11 ∷ 41 ∷ 39 ∷ 434 ∷ 102 ∷ 58 ∷ []

-- what values have to be, in the order in which they are judged
abbrev pub cancel_reject_formats : List Row
cancel_reject_formats =
    record { tag = 37; format = formats.OrderId }
    ∷ record { tag = 11; format = formats.ClOrdId }
    ∷ record { tag = 41; format = formats.ClOrdId }
    ∷ record { tag = 39; format = formats.OrdStatus }
    ∷ record { tag = 434; format = formats.CxlRejResponseTo }
    ∷ record { tag = 102; format = formats.Number }
    ∷ []

-- the first refusal that fields meet as a reject
abbrev pub cancel_reject_refusal : List Field → Option SessionRefusal
cancel_reject_refusal fs = first_refusal cancel_reject_tags cancel_reject_formats fs

-- a reject without its type
abbrev pub cancel_reject_body_slots : CancelReject → List FieldSlot
cancel_reject_body_slots m =
    field_slot 37 (order_id_text m.order_id)
    ∷ field_slot 11 m.cl_ord_id
    ∷ field_slot 41 m.orig_cl_ord_id
    ∷ field_slot 39 (status_letter m.ord_status ∷ [])
    ∷ field_slot 434 (response_letter m.cxl_rej_response_to ∷ [])
    ∷ field_slot 102 (decimal m.cxl_rej_reason)
    ∷ field_slot 58 m.text
    ∷ []

-- the fields that a reject is written as, in their order
abbrev pub cancel_reject_slots : CancelReject → List FieldSlot
cancel_reject_slots m = field_slot 35 (57 ∷ []) ∷ cancel_reject_body_slots m

abbrev pub cancel_reject_body : CancelReject → List Field
cancel_reject_body m = fields_of_slots (cancel_reject_body_slots m)

abbrev pub cancel_reject_fields : CancelReject → List Field
cancel_reject_fields m = fields_of_slots (cancel_reject_slots m)

-- the reject that fields say
abbrev pub cancel_reject_in : List Field → CancelReject
cancel_reject_in fs = record {
  order_id = order_id_at 37 fs;
  cl_ord_id = text_of 11 fs;
  orig_cl_ord_id = text_of 41 fs;
  ord_status = ord_status_of (char_of 39 fs);
  cxl_rej_response_to = response_of (char_of 434 fs);
  cxl_rej_reason = number_of_tag 102 fs;
  text = text_of 58 fs;
}

-- what each reject keeps
pub record IsCancelReject (m : CancelReject) : Type 0 where
  pub order_id : IfSome m.order_id (λ n. n < 2 ^ 64)
  pub cl_ord_id : is_cl_ord_id m.cl_ord_id ≡ true
  pub orig_cl_ord_id : is_cl_ord_id m.orig_cl_ord_id ≡ true
  pub cxl_rej_reason : m.cxl_rej_reason < 2 ^ 64
