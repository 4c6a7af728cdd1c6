-- A written business reject is read again.
use Rattle.std.proofs.Common.{◌≡◌, List, refl, ap, ◌∙◌}
use Rattle.std.specs.Prelude.{Option, Some, None}
use Rattle.fix_values.specs.Field.{Field}
use Rattle.fix_types.specs.declared.business_reject.BusinessReject.{BusinessReject}
use Rattle.fix_values.specs.fix_fields.declared.session_refusal.SessionRefusal.{SessionRefusal}
use Rattle.fix_types.specs.BusinessReject.{business_reject_tags, business_reject_formats, business_reject_fields}
use Rattle.fix_types.specs.BusinessReject.{business_reject_refusal, business_reject_of, IsBusinessReject}
use Rattle.fix_values.proofs.Numbers.{number_of-decimal, is_number-decimal}
use Rattle.fix_values.proofs.Tables.{none_refused}

pub refusal-business_reject_fields : (m : BusinessReject) → IsBusinessReject m
    → business_reject_refusal (business_reject_fields m) ≡ None
refusal-business_reject_fields m is =
    none_refused business_reject_tags business_reject_formats (business_reject_fields m)
    (refl, (refl, (refl, (refl, tt)))) (
      is_number-decimal m.ref_seq_num is.ref_seq_num,
      (is_number-decimal m.reason is.reason, tt),
    )

pub business_reject_of-fields : (m : BusinessReject) → IsBusinessReject m
    → business_reject_of (business_reject_fields m) ≡ m
business_reject_of-fields m is = rw (
  number_of-decimal m.ref_seq_num is.ref_seq_num,
  number_of-decimal m.reason
      is.reason,
) refl

-- fields that a business reject is written as are refused nothing
pub business_reject_passes : (fs : List Field) (r : SessionRefusal) → Some r ≡ business_reject_refusal fs
    → (m : BusinessReject) → IsBusinessReject m → fs ≡ business_reject_fields m → ⊥
business_reject_passes fs r e m is same = let z : ◌≡◌ {A = Option SessionRefusal} (Some r) None = e
    ∙ ap business_reject_refusal same ∙ refusal-business_reject_fields m is in absurd cc
