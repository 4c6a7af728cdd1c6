-- BusinessMessageReject as fields. (FIX 4.4 Volume 2, "Business Message Reject".)
use Rattle.std.specs.Prelude.{ℕ, ◌<◌, ◌^◌, List, [], ◌∷◌, Option, decimal}
use Rattle.fix_values.specs.Field.{Field}
use Rattle.fix_values.specs.declared.format.Format.TheVariants as formats
use Rattle.fix_values.specs.declared.format.Row.{Row}
use Rattle.fix_values.specs.fix_fields.declared.session_refusal.SessionRefusal.{SessionRefusal}
use Rattle.fix_types.specs.declared.business_reject.BusinessReject.{BusinessReject}
use Rattle.fix_values.specs.Formats.{first_refusal}
use Rattle.fix_values.specs.Slots.{FieldSlot, field_slot, fields_of_slots, text_of, number_of_tag}

-- the tags that have to be there, in the order in which they are judged
abbrev pub business_reject_tags : List ℕ
business_reject_tags = 45 ∷ 372 ∷ 380 ∷ 58 ∷ []

-- what values have to be, in the order in which they are judged
abbrev pub business_reject_formats : List Row
business_reject_formats = record { tag = 45; format = formats.Number } ∷ record { tag = 380; format = formats.Number }
    ∷ []

-- the first refusal that fields meet as a business reject
abbrev pub business_reject_refusal : List Field → Option SessionRefusal
business_reject_refusal fs = first_refusal business_reject_tags business_reject_formats fs

-- what is refused and why
abbrev pub business_reject_body_slots : BusinessReject → List FieldSlot
business_reject_body_slots m =
    field_slot 45 (decimal m.ref_seq_num)
    ∷ field_slot 372 m.ref_msg_type
    ∷ field_slot 380 (decimal m.reason)
    ∷ field_slot 58 m.text
    ∷ []

-- the fields that a business reject is written as, in their order
abbrev pub business_reject_slots : BusinessReject → List FieldSlot
business_reject_slots m = field_slot 35 (106 ∷ []) ∷ business_reject_body_slots m

abbrev pub business_reject_fields : BusinessReject → List Field
business_reject_fields m = fields_of_slots (business_reject_slots m)

-- the business reject that fields say
abbrev pub business_reject_of : List Field → BusinessReject
business_reject_of fs = record {
  ref_seq_num = number_of_tag 45 fs;
  ref_msg_type = text_of 372 fs;
  reason = number_of_tag 380 fs;
  text = text_of 58 fs;
}

-- what each business reject keeps
pub record IsBusinessReject (m : BusinessReject) : Type 0 where
  pub ref_seq_num : m.ref_seq_num < 2 ^ 64
  pub reason : m.reason < 2 ^ 64
