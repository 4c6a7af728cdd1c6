-- A reject that is written is read again.
use Rattle.std.proofs.Common.{◌≡◌, List, refl, ap, ◌∙◌}
use Rattle.std.specs.Prelude.{Option, Some, None, is_some}
use Rattle.fix_values.specs.Field.{Field}
use Rattle.fix_values.specs.declared.format.Format.TheVariants as formats
use Rattle.fix_values.specs.fix_fields.declared.session_refusal.SessionRefusal.{SessionRefusal}
use Rattle.fix_values.specs.Formats.{passes}
use Rattle.fix_values.proofs.Tables.{none_refused}
use Rattle.fix_values.proofs.Numbers.{number_of-decimal, is_number-decimal}
use Rattle.fix_values.proofs.Values.{passes-order_id_text, order_id_of-text, passes-status_letter, status_of-letter}
use Rattle.fix_values.proofs.Values.{passes-response_letter, response_of-letter}
use Rattle.fix_types.specs.declared.cancel_reject.CancelReject.{CancelReject}
use Rattle.fix_types.specs.CancelReject.{cancel_reject_tags, cancel_reject_formats, cancel_reject_fields}
use Rattle.fix_types.specs.CancelReject.{cancel_reject_refusal, cancel_reject_in, IsCancelReject}
use Rattle.fix_types.proofs.CancelRejectValues.{answered-value, code-value, id-value, order-value, original-value}
use Rattle.fix_types.proofs.CancelRejectValues.{status-value, why-value}

refusal-cancel_reject_fields : (m : CancelReject) → IsCancelReject m
    → cancel_reject_refusal (cancel_reject_fields m) ≡ None
refusal-cancel_reject_fields m is =
    none_refused cancel_reject_tags cancel_reject_formats (cancel_reject_fields m) (
      ap is_some (order-value m),
      (
        ap is_some (id-value m),
        (
          ap is_some (original-value m),
          (
            ap is_some (status-value m),
            (ap is_some (answered-value m), (ap is_some (code-value m), (ap is_some (why-value m), tt))),
          ),
        ),
      ),
    ) (
      ap (passes formats.OrderId) (order-value m)
          ∙ passes-order_id_text m.order_id is.order_id,
      (
        ap (passes formats.ClOrdId) (id-value m)
            ∙ is.cl_ord_id,
        (
          ap (passes formats.ClOrdId) (original-value m)
              ∙ is.orig_cl_ord_id,
          (
            ap (passes formats.OrdStatus) (status-value m)
                ∙ passes-status_letter m.ord_status,
            (
              ap (passes formats.CxlRejResponseTo) (answered-value m)
                  ∙ passes-response_letter m.cxl_rej_response_to,
              (ap (passes formats.Number) (code-value m) ∙ is_number-decimal m.cxl_rej_reason is.cxl_rej_reason, tt),
            ),
          ),
        ),
      ),
    )

pub cancel_reject_of-fields : (m : CancelReject) → IsCancelReject m → cancel_reject_in (cancel_reject_fields m) ≡ m
cancel_reject_of-fields m is = rw (
  order_id_of-text m.order_id is.order_id,
  status_of-letter m.ord_status,
  response_of-letter m.cxl_rej_response_to,
  number_of-decimal m.cxl_rej_reason is.cxl_rej_reason,
) refl

-- fields that a reject is written as are refused nothing
pub cancel_reject_passes : (fs : List Field) (r : SessionRefusal) → Some r ≡ cancel_reject_refusal fs
    → (m : CancelReject) → IsCancelReject m → fs ≡ cancel_reject_fields m → ⊥
cancel_reject_passes fs r e m is same = let z : ◌≡◌ {A = Option SessionRefusal} (Some r) None = e
    ∙ ap cancel_reject_refusal same ∙ refusal-cancel_reject_fields m is in absurd cc
