-- What a body of the application is, as it is issued.
use Rattle.std.specs.Prelude.{◌≤◌, ℕ, List, length, slice_range}
use Rattle.fix_framing.specs.fix_fields.Field.{Message, fields_text}
use Rattle.fix_framing.specs.fix_fields.Printed.{PrintsFields}
use Rattle.session_reading.specs.fix_types.declared.application.AppBody.{AppBody}
use Rattle.session_reading.specs.fix_types.declared.application.AppBody.TheVariants as bodies
use Rattle.session_reading.specs.fix_types.CancelReject.{cancel_reject_body}
use Rattle.session_reading.specs.fix_types.Report.{report_body}

-- its fields
abbrev pub issued_body : AppBody → Message
issued_body (bodies.Report report) = report_body report
issued_body (bodies.CancelReject reject) = cancel_reject_body reject

-- what callers see of a report that keeps the place of its body: the fields of both
pub record BodyIssued : Type 0 where
  pub report : Message
  pub body : Message

-- what stands in a report's text from one place to another
abbrev pub report_part : Message → ℕ → ℕ → List ℕ
report_part report start end = slice_range (fields_text report) start end

-- fields stand there
pub record IsPart (report : Message) (start end : ℕ) : Type 0 where
  pub ordered : start ≤ end
  pub ends : end ≤ length (fields_text report)
  pub prints : PrintsFields (report_part report start end)
