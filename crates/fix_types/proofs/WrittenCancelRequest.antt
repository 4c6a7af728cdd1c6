-- A cancel request that is written is read again.
use Rattle.std.proofs.Common.{◌≡◌, List, refl, ap, ◌∙◌}
use Rattle.std.specs.Prelude.{Option, Some, None, is_some}
use Rattle.fix_values.specs.Field.{Field}
use Rattle.fix_values.specs.declared.format.Format.TheVariants as formats
use Rattle.fix_values.specs.fix_fields.declared.session_refusal.SessionRefusal.{SessionRefusal}
use Rattle.fix_values.specs.Formats.{passes}
use Rattle.fix_values.proofs.Tables.{none_refused}
use Rattle.fix_types.specs.declared.cancel_request.CancelRequest.{CancelRequest}
use Rattle.fix_types.specs.Requests.{cancel_required, cancel_rows, cancel_refusal}
use Rattle.fix_types.specs.CancelRequest.{cancel_request_fields, cancel_request_of, IsCancelRequest}
use Rattle.fix_types.proofs.CancelRequestValues.{id-value, original-value}

refusal-cancel_request_fields : (m : CancelRequest) → IsCancelRequest m
    → cancel_refusal (cancel_request_fields m) ≡ None
refusal-cancel_request_fields m is =
    none_refused cancel_required cancel_rows (cancel_request_fields m)
    (ap is_some (id-value m), (ap is_some (original-value m), tt)) (
      ap (passes formats.ClOrdId) (id-value m)
          ∙ is.cl_ord_id,
      (ap (passes formats.ClOrdId) (original-value m) ∙ is.orig_cl_ord_id, tt),
    )

pub cancel_request_of-fields : (m : CancelRequest) → cancel_request_of (cancel_request_fields m) ≡ m
cancel_request_of-fields m = refl

-- fields that a cancel request is written as are refused nothing
pub cancel_request_passes : (fs : List Field) (r : SessionRefusal) → Some r ≡ cancel_refusal fs → (m : CancelRequest)
    → IsCancelRequest m → fs ≡ cancel_request_fields m → ⊥
cancel_request_passes fs r e m is same = let z : ◌≡◌ {A = Option SessionRefusal} (Some r) None = e
    ∙ ap cancel_refusal same ∙ refusal-cancel_request_fields m is in absurd cc
