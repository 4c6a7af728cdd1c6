-- The value of each tag in the fields of a report.
use Rattle.std.proofs.Common.{◌≡◌, ℕ, List, [], ◌∷◌, refl, decimal}
use Rattle.std.specs.Prelude.{Option, Some, None}
use Rattle.std.specs.Option.{option_or}
use Rattle.fix_values.specs.Field.{first_value}
use Rattle.fix_values.specs.Letters.{exec_letter, status_letter}
use Rattle.fix_values.specs.Slots.{number_text}
use Rattle.fix_values.proofs.Lookups.{lookup, value_in}
use Rattle.fix_types.specs.declared.report.Report.{Report}
use Rattle.fix_types.specs.Report.{report_slots, report_fields}

abbrev pub Has : ℕ → Option (List ℕ) → Report → Type 0
Has tag value m = first_value tag (report_fields m) ≡ value

-- of a tag that one slot alone has
value_is : (tag : ℕ) (m : Report) (value : Option (List ℕ)) → lookup tag (report_slots m) ≡ option_or value None
    → Has tag value m
value_is tag m value e = value_in tag (report_slots m) value e

pub kind-value : (m : Report) → Has 35 (Some (56 ∷ [])) m
kind-value m = value_is 35 m (Some (56 ∷ [])) refl

pub order-value : (m : Report) → Has 37 (Some (decimal m.order_id)) m
order-value m = value_is 37 m (Some (decimal m.order_id)) refl

pub id-value : (m : Report) → Has 11 (Some m.cl_ord_id) m
id-value m = value_is 11 m (Some m.cl_ord_id) refl

pub original-value : (m : Report) → Has 41 m.orig_cl_ord_id m
original-value m = value_is 41 m m.orig_cl_ord_id refl

pub report-value : (m : Report) → Has 17 (Some (decimal m.exec_id)) m
report-value m = value_is 17 m (Some (decimal m.exec_id)) refl

pub broken-value : (m : Report) → Has 19 (number_text m.exec_ref_id) m
broken-value m = value_is 19 m (number_text m.exec_ref_id) refl

pub exec_type-value : (m : Report) → Has 150 (Some (exec_letter m.exec_type ∷ [])) m
exec_type-value m = value_is 150 m (Some (exec_letter m.exec_type ∷ [])) refl

pub status-value : (m : Report) → Has 39 (Some (status_letter m.ord_status ∷ [])) m
status-value m = value_is 39 m (Some (status_letter m.ord_status ∷ [])) refl

pub code-value : (m : Report) → Has 103 (number_text m.ord_rej_reason) m
code-value m = value_is 103 m (number_text m.ord_rej_reason) refl

pub restated-value : (m : Report) → Has 378 (number_text m.exec_restatement_reason) m
restated-value m = value_is 378 m (number_text m.exec_restatement_reason) refl

pub symbol-value : (m : Report) → Has 55 (Some m.symbol) m
symbol-value m = value_is 55 m (Some m.symbol) refl

pub side-value : (m : Report) → Has 54 (Some (m.side ∷ [])) m
side-value m = value_is 54 m (Some (m.side ∷ [])) refl

pub quantity-value : (m : Report) → Has 38 (Some m.order_qty) m
quantity-value m = value_is 38 m (Some m.order_qty) refl

pub price-value : (m : Report) → Has 44 m.price m
price-value m = value_is 44 m m.price refl

pub last_quantity-value : (m : Report) → Has 32 (number_text m.last_qty) m
last_quantity-value m = value_is 32 m (number_text m.last_qty) refl

pub last_price-value : (m : Report) → Has 31 m.last_px m
last_price-value m = value_is 31 m m.last_px refl

pub leaves-value : (m : Report) → Has 151 (Some (decimal m.leaves_qty)) m
leaves-value m = value_is 151 m (Some (decimal m.leaves_qty)) refl

pub executed-value : (m : Report) → Has 14 (Some (decimal m.cum_qty)) m
executed-value m = value_is 14 m (Some (decimal m.cum_qty)) refl

pub average-value : (m : Report) → Has 6 (Some m.avg_px) m
average-value m = value_is 6 m (Some m.avg_px) refl

pub why-value : (m : Report) → Has 58 m.text m
why-value m = value_is 58 m m.text refl
