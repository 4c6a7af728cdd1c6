-- A report with the fields of a refusal is the one that the law writes, with the texts of the order's own quantity and
-- price.
use Rattle.std.proofs.Common.{◌≡◌, ℕ, List, Option, Some, None, refl, ◌∙◌}
use Rattle.std.specs.Fmt.{digits}
use Rattle.order_law.specs.fix_fields.Field.{first_value}
use Rattle.orders.specs.fix_types.declared.new_order.NewOrder.{NewOrder}
use Rattle.orders.specs.fix_types.NewOrder.{new_order_fields, new_order_slots}
use Rattle.orders.specs.fix_types.Report.{report_fields}
use Rattle.fix_values.proofs.Lookups.{first_value-fields_of, option_or-none}
use Rattle.order_law.specs.Told.{refusing_report}
use Rattle.to_client.specs.Refusals.{refusal_of}

pub refusal-told : (n x code : ℕ) (why : List ℕ) (d : NewOrder)
    → report_fields (refusal_of n x code why d) ≡ refusing_report x n (new_order_fields d) code why
unfolding digits
refusal-told n x code why d = by_price d.price refl
  where
    own : first_value 44 (new_order_fields d) ≡ d.price
    own = first_value-fields_of 44 (new_order_slots d) ∙ option_or-none d.price

    by_price : (p : Option (List ℕ)) → d.price ≡ p
        → report_fields (refusal_of n x code why d) ≡ refusing_report x n (new_order_fields d) code why
    by_price None is_p = let none : first_value 44 (new_order_fields d) ≡ None = own ∙ is_p in rw (none, is_p) refl
    by_price (Some v) is_p = let some : first_value 44 (new_order_fields d) ≡ Some v = own ∙ is_p in
        rw (some, is_p) refl
