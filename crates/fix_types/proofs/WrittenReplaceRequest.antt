-- A replace request that is written is read again.
use Rattle.std.proofs.Common.{◌≡◌, List, refl, ap, ◌∙◌}
use Rattle.std.specs.Prelude.{Option, Some, None, is_some}
use Rattle.fix_values.specs.Field.{Field}
use Rattle.fix_values.specs.declared.format.Format.TheVariants as formats
use Rattle.fix_values.specs.fix_fields.declared.session_refusal.SessionRefusal.{SessionRefusal}
use Rattle.fix_values.specs.Formats.{passes}
use Rattle.fix_values.proofs.Tables.{none_refused}
use Rattle.fix_values.proofs.Values.{passes-char_text, char-char_text}
use Rattle.fix_types.specs.declared.replace_request.ReplaceRequest.{ReplaceRequest}
use Rattle.fix_types.specs.Requests.{replace_required, replace_rows, replace_refusal}
use Rattle.fix_types.specs.ReplaceRequest.{replace_request_fields, replace_request_of, IsReplaceRequest}
use Rattle.fix_types.proofs.ReplaceRequestValues.{capacity-value, id-value, instruction-value, life_time-value}
use Rattle.fix_types.proofs.ReplaceRequestValues.{minimum-value, original-value, price-value, quantity-value}
use Rattle.fix_types.proofs.ReplaceRequestValues.{side-value, symbol-value, type-value}

refusal-replace_request_fields : (m : ReplaceRequest) → IsReplaceRequest m
    → replace_refusal (replace_request_fields m) ≡ None
refusal-replace_request_fields m is =
    none_refused replace_required replace_rows (replace_request_fields m) (
      ap is_some (id-value m),
      (
        ap is_some (original-value m),
        (ap is_some (quantity-value m), (ap is_some (type-value m), tt)),
      ),
    ) (
      ap (passes formats.ClOrdId) (id-value m)
          ∙ is.cl_ord_id,
      (
        ap (passes formats.ClOrdId) (original-value m)
            ∙ is.orig_cl_ord_id,
        (
          ap (passes formats.Char) (side-value m)
              ∙ passes-char_text m.side,
          (
            ap (passes formats.Float) (quantity-value m)
                ∙ is.order_qty,
            (
              ap (passes formats.Char) (type-value m),
              (
                ap (passes formats.Float) (price-value m)
                    ∙ is.price,
                (
                  ap (passes formats.Char) (life_time-value m)
                      ∙ passes-char_text m.time_in_force,
                  (
                    ap (passes formats.Char) (capacity-value m)
                        ∙ passes-char_text m.order_capacity,
                    (ap (passes formats.Float) (minimum-value m) ∙ is.min_qty, tt),
                  ),
                ),
              ),
            ),
          ),
        ),
      ),
    )

pub replace_request_of-fields : (m : ReplaceRequest) → replace_request_of (replace_request_fields m) ≡ m
replace_request_of-fields m = rw (
  side-value m,
  symbol-value m,
  quantity-value m,
  type-value m,
  price-value m,
  life_time-value m,
  instruction-value m,
  capacity-value m,
  minimum-value m,
  char-char_text m.side,
  char-char_text
      m.time_in_force,
  char-char_text m.order_capacity,
) refl

-- fields that a replace request is written as are refused nothing
pub replace_request_passes : (fs : List Field) (r : SessionRefusal) → Some r ≡ replace_refusal fs → (m : ReplaceRequest)
    → IsReplaceRequest m → fs ≡ replace_request_fields m → ⊥
replace_request_passes fs r e m is same = let z : ◌≡◌ {A = Option SessionRefusal} (Some r) None = e
    ∙ ap replace_refusal same ∙ refusal-replace_request_fields m is in absurd cc
