-- ExecutionReport as fields. (FIX 4.4 Volume 4, "Execution Report".)
use Rattle.std.specs.Prelude.{◌≡◌, ℕ, ◌<◌, ◌^◌, true, List, [], ◌∷◌, ◌++◌, Option, IfSome, decimal}
use Rattle.fix_values.specs.Field.{Field, first_value}
use Rattle.fix_values.specs.declared.format.Format.TheVariants as formats
use Rattle.fix_values.specs.declared.format.Row.{Row}
use Rattle.fix_values.specs.fix_fields.declared.session_refusal.SessionRefusal.{SessionRefusal}
use Rattle.fix_types.specs.declared.report.Report.{Report}
use Rattle.fix_values.specs.Texts.{is_cl_ord_id}
use Rattle.fix_values.specs.Letters.{exec_letter, exec_type_of, status_letter, ord_status_of}
use Rattle.fix_values.specs.Formats.{first_refusal, passes}
use Rattle.fix_values.specs.Slots.{FieldSlot, slot, field_slot, fields_of_slots, number_text, text_of, char_of}
use Rattle.fix_values.specs.Slots.{number_of_tag, optional_number}

-- the tags that have to be there, in the order in which they are judged
abbrev pub report_tags : List ℕ
report_tags = 37 ∷ 11 ∷ 17 ∷ 150 ∷ 39 ∷ 55 ∷ 54 ∷ 38 ∷ 151 ∷ 14 ∷ 6 ∷ []

-- what values have to be, in the order in which they are judged
abbrev pub report_formats : List Row
report_formats =
    record { tag = 37; format = formats.Number }
    ∷ record { tag = 11; format = formats.ClOrdId }
    ∷ record { tag = 41; format = formats.ClOrdId }
    ∷ record { tag = 17; format = formats.Number }
    ∷ record { tag = 19; format = formats.Number }
    ∷ record { tag = 150; format = formats.ExecType }
    ∷ record { tag = 39; format = formats.OrdStatus }
    ∷ record { tag = 103; format = formats.Number }
    ∷ record { tag = 378; format = formats.Number }
    ∷ record { tag = 54; format = formats.Char }
    ∷ record { tag = 32; format = formats.Number }
    ∷ record { tag = 151; format = formats.Number }
    ∷ record { tag = 14; format = formats.Number }
    ∷ []

-- the first refusal that fields meet as a report
abbrev pub report_refusal : List Field → Option SessionRefusal
report_refusal fs = first_refusal report_tags report_formats fs

-- what a report is of, and what happened
abbrev pub head_slots : Report → List FieldSlot
head_slots m =
    field_slot 37 (decimal m.order_id)
    ∷ field_slot 11 m.cl_ord_id
    ∷ slot 41 m.orig_cl_ord_id
    ∷ field_slot 17 (decimal m.exec_id)
    ∷ slot 19 (number_text m.exec_ref_id)
    ∷ field_slot 150 (exec_letter m.exec_type ∷ [])
    ∷ field_slot 39 (status_letter m.ord_status ∷ [])
    ∷ slot 103 (number_text m.ord_rej_reason)
    ∷ slot 378 (number_text m.exec_restatement_reason)
    ∷ []

-- the order's terms and amounts
abbrev pub amount_slots : Report → List FieldSlot
amount_slots m =
    field_slot 55 m.symbol
    ∷ field_slot 54 (m.side ∷ [])
    ∷ field_slot 38 m.order_qty
    ∷ slot 44 m.price
    ∷ slot 32 (number_text m.last_qty)
    ∷ slot 31 m.last_px
    ∷ field_slot 151 (decimal m.leaves_qty)
    ∷ field_slot 14 (decimal m.cum_qty)
    ∷ field_slot 6 m.avg_px
    ∷ slot 58 m.text
    ∷ []

-- a report without its type
abbrev pub report_body_slots : Report → List FieldSlot
report_body_slots m = head_slots m ++ amount_slots m

-- the fields that a report is written as, in their order
abbrev pub report_slots : Report → List FieldSlot
report_slots m = field_slot 35 (56 ∷ []) ∷ report_body_slots m

abbrev pub report_body : Report → List Field
report_body m = fields_of_slots (report_body_slots m)

abbrev pub report_fields : Report → List Field
report_fields m = fields_of_slots (report_slots m)

-- the report that fields say
abbrev pub report_of : List Field → Report
report_of fs = record {
  order_id = number_of_tag 37 fs;
  cl_ord_id = text_of 11 fs;
  orig_cl_ord_id = first_value 41 fs;
  exec_id = number_of_tag 17 fs;
  exec_ref_id = optional_number 19 fs;
  exec_type = exec_type_of (char_of 150 fs);
  ord_status = ord_status_of (char_of 39 fs);
  ord_rej_reason = optional_number 103 fs;
  exec_restatement_reason = optional_number 378 fs;
  symbol = text_of 55 fs;
  side = char_of 54 fs;
  order_qty = text_of 38 fs;
  price = first_value 44 fs;
  last_qty = optional_number 32 fs;
  last_px = first_value 31 fs;
  leaves_qty = number_of_tag 151 fs;
  cum_qty = number_of_tag 14 fs;
  avg_px = text_of 6 fs;
  text = first_value 58 fs;
}

-- what each report keeps
pub record KeepsHead (m : Report) : Type 0 where
  pub order_id : m.order_id < 2 ^ 64
  pub cl_ord_id : is_cl_ord_id m.cl_ord_id ≡ true
  pub orig_cl_ord_id : passes formats.ClOrdId m.orig_cl_ord_id ≡ true
  pub exec_id : m.exec_id < 2 ^ 64
  pub exec_ref_id : IfSome m.exec_ref_id (λ n. n < 2 ^ 64)
  pub ord_rej_reason : IfSome m.ord_rej_reason (λ n. n < 2 ^ 64)
  pub exec_restatement_reason : IfSome m.exec_restatement_reason (λ n. n < 2 ^ 64)

pub record KeepsAmounts (m : Report) : Type 0 where
  pub last_qty : IfSome m.last_qty (λ n. n < 2 ^ 64)
  pub leaves_qty : m.leaves_qty < 2 ^ 64
  pub cum_qty : m.cum_qty < 2 ^ 64

abbrev pub IsReport : Report → Type 0
IsReport m = KeepsHead m × KeepsAmounts m
