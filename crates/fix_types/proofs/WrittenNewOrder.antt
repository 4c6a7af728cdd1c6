-- A new order that is written is read again.
use Rattle.std.proofs.Common.{◌≡◌, List, refl, ap, ◌∙◌}
use Rattle.std.specs.Prelude.{Option, Some, None, is_some}
use Rattle.fix_values.specs.Field.{Field}
use Rattle.fix_values.specs.declared.format.Format.TheVariants as formats
use Rattle.fix_values.specs.fix_fields.declared.session_refusal.SessionRefusal.{SessionRefusal}
use Rattle.fix_values.specs.Formats.{passes}
use Rattle.fix_values.proofs.Tables.{none_refused}
use Rattle.fix_values.proofs.Values.{passes-char_text, char-char_text}
use Rattle.fix_types.specs.declared.new_order.NewOrder.{NewOrder}
use Rattle.fix_types.specs.Requests.{new_order_required, new_order_formats, new_order_refusal}
use Rattle.fix_types.specs.NewOrder.{new_order_fields, new_order_of, IsNewOrder}
use Rattle.fix_types.proofs.NewOrderValues.{capacity-value, id-value, instruction-value, life_time-value, minimum-value}
use Rattle.fix_types.proofs.NewOrderValues.{price-value, quantity-value, side-value, symbol-value, type-value}

refusal-new_order_fields : (m : NewOrder) → IsNewOrder m → new_order_refusal (new_order_fields m) ≡ None
refusal-new_order_fields m is =
    none_refused new_order_required new_order_formats (new_order_fields m) (
      ap is_some (id-value m),
      (
        ap is_some (side-value m),
        (ap is_some (symbol-value m), (ap is_some (quantity-value m), (ap is_some (type-value m), tt))),
      ),
    ) (
      ap (passes formats.ClOrdId) (id-value m)
          ∙ is.cl_ord_id,
      (
        ap (passes formats.Char) (side-value m),
        (
          ap (passes formats.Float) (quantity-value m)
              ∙ is.order_qty,
          (
            ap (passes formats.Char) (type-value m),
            (
              ap (passes formats.Float) (price-value m)
                  ∙ is.price,
              (
                ap (passes formats.Char) (life_time-value m)
                    ∙ passes-char_text m.time_in_force,
                (
                  ap (passes formats.Char) (capacity-value m)
                      ∙ passes-char_text m.order_capacity,
                  (ap (passes formats.Float) (minimum-value m) ∙ is.min_qty, tt),
                ),
              ),
            ),
          ),
        ),
      ),
    )

pub new_order_of-fields : (m : NewOrder) → new_order_of (new_order_fields m) ≡ m
new_order_of-fields m = rw (
  price-value m,
  life_time-value m,
  instruction-value m,
  capacity-value m,
  minimum-value m,
  char-char_text m.time_in_force,
  char-char_text m.order_capacity,
) refl

-- fields that a new order is written as are refused nothing
pub new_order_passes : (fs : List Field) (r : SessionRefusal) → Some r ≡ new_order_refusal fs → (m : NewOrder)
    → IsNewOrder m → fs ≡ new_order_fields m → ⊥
new_order_passes fs r e m is same = let z : ◌≡◌ {A = Option SessionRefusal} (Some r) None = e
    ∙ ap new_order_refusal same ∙ refusal-new_order_fields m is in absurd cc
