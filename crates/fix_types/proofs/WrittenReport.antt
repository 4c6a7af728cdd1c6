-- A report that is written is read again.
use Rattle.std.proofs.Common.{◌≡◌, List, refl, ap, ◌∙◌}
use Rattle.std.specs.Prelude.{Option, Some, None, is_some}
use Rattle.fix_values.specs.Field.{Field}
use Rattle.fix_values.specs.declared.format.Format.TheVariants as formats
use Rattle.fix_values.specs.fix_fields.declared.session_refusal.SessionRefusal.{SessionRefusal}
use Rattle.fix_values.specs.Formats.{passes}
use Rattle.fix_values.proofs.Tables.{none_refused}
use Rattle.fix_values.proofs.Numbers.{number_of-decimal, is_number-decimal}
use Rattle.fix_values.proofs.Values.{passes-number_text, number-number_text, passes-exec_letter, exec_type_of-letter}
use Rattle.fix_values.proofs.Values.{passes-status_letter, status_of-letter}
use Rattle.fix_types.specs.declared.report.Report.{Report}
use Rattle.fix_types.specs.Report.{report_tags, report_formats, report_fields, report_refusal, report_of, IsReport}
use Rattle.fix_types.proofs.ReportValues.{average-value, broken-value, code-value, exec_type-value, executed-value}
use Rattle.fix_types.proofs.ReportValues.{id-value, last_price-value, last_quantity-value, leaves-value, order-value}
use Rattle.fix_types.proofs.ReportValues.{original-value, price-value, quantity-value, report-value, restated-value}
use Rattle.fix_types.proofs.ReportValues.{side-value, status-value, symbol-value, why-value}

refusal-report_fields : (m : Report) → IsReport m → report_refusal (report_fields m) ≡ None
refusal-report_fields m is =
    none_refused report_tags report_formats (report_fields m) (
      ap is_some (order-value m),
      (
        ap is_some (id-value m),
        (
          ap is_some (report-value m),
          (
            ap is_some (exec_type-value m),
            (
              ap is_some (status-value m),
              (
                ap is_some (symbol-value m),
                (
                  ap is_some (side-value m),
                  (
                    ap is_some (quantity-value m),
                    (ap is_some (leaves-value m), (ap is_some (executed-value m), (ap is_some (average-value m), tt))),
                  ),
                ),
              ),
            ),
          ),
        ),
      ),
    ) (
      ap (passes formats.Number) (order-value m)
          ∙ is_number-decimal m.order_id is.0.order_id,
      (
        ap (passes formats.ClOrdId) (id-value m)
            ∙ is.0.cl_ord_id,
        (
          ap (passes formats.ClOrdId) (original-value m)
              ∙ is.0.orig_cl_ord_id,
          (
            ap (passes formats.Number) (report-value m)
                ∙ is_number-decimal m.exec_id is.0.exec_id,
            (
              ap (passes formats.Number) (broken-value m)
                  ∙ passes-number_text m.exec_ref_id is.0.exec_ref_id,
              (
                ap (passes formats.ExecType) (exec_type-value m)
                    ∙ passes-exec_letter m.exec_type,
                (
                  ap (passes formats.OrdStatus) (status-value m)
                      ∙ passes-status_letter m.ord_status,
                  (
                    ap (passes formats.Number) (code-value m)
                        ∙ passes-number_text m.ord_rej_reason is.0.ord_rej_reason,
                    (
                      ap (passes formats.Number) (restated-value m)
                          ∙ passes-number_text m.exec_restatement_reason is.0.exec_restatement_reason,
                      (
                        ap (passes formats.Char) (side-value m),
                        (
                          ap (passes formats.Number) (last_quantity-value m)
                              ∙ passes-number_text m.last_qty is.1.last_qty,
                          (
                            ap (passes formats.Number) (leaves-value m)
                                ∙ is_number-decimal m.leaves_qty is.1.leaves_qty,
                            (ap (passes formats.Number) (executed-value m) ∙ is_number-decimal m.cum_qty is.1.cum_qty, tt),
                          ),
                        ),
                      ),
                    ),
                  ),
                ),
              ),
            ),
          ),
        ),
      ),
    )

pub report_of-fields : (m : Report) → IsReport m → report_of (report_fields m) ≡ m
report_of-fields m is = rw (
  original-value m,
  report-value m,
  broken-value m,
  exec_type-value m,
  status-value m,
  code-value m,
  restated-value m,
  symbol-value m,
  side-value m,
  quantity-value m,
  price-value m,
  last_quantity-value
      m,
  last_price-value m,
  leaves-value m,
  executed-value m,
  average-value m,
  why-value m,
  number_of-decimal m.order_id
      is.0.order_id,
  number_of-decimal m.exec_id is.0.exec_id,
  number_of-decimal m.leaves_qty is.1.leaves_qty,
  number_of-decimal m.cum_qty is.1.cum_qty,
  number-number_text m.exec_ref_id is.0.exec_ref_id,
  number-number_text
      m.ord_rej_reason is.0.ord_rej_reason,
  number-number_text m.exec_restatement_reason is.0.exec_restatement_reason,
  number-number_text m.last_qty is.1.last_qty,
  exec_type_of-letter m.exec_type,
  status_of-letter m.ord_status,
) refl

-- fields that a report is written as are refused nothing
pub report_passes : (fs : List Field) (r : SessionRefusal) → Some r ≡ report_refusal fs → (m : Report) → IsReport m
    → fs ≡ report_fields m → ⊥
report_passes fs r e m is same = let z : ◌≡◌ {A = Option SessionRefusal} (Some r) None = e ∙ ap report_refusal same
    ∙ refusal-report_fields m is in absurd cc
