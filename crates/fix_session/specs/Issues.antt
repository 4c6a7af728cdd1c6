-- What a body of the application is, as it is issued.
use Rattle.session_law.specs.declared.kind.Kind.{Kind}
use Rattle.session_law.specs.declared.kind.Kind.TheVariants as kinds
use Rattle.session_law.specs.Runs.{Call, Issue}
use Rattle.session_reading.specs.fix_types.declared.application.AppBody.{AppBody}
use Rattle.session_reading.specs.fix_types.declared.application.AppBody.TheVariants as bodies
use Rattle.session_writing.specs.Issued.{issued_body}

abbrev pub issued_kind : AppBody → Kind
issued_kind (bodies.Report report) = kinds.Report
issued_kind (bodies.CancelReject reject) = kinds.CancelReject

-- the call that issues it
abbrev pub call_of_body : AppBody → Call
call_of_body body = Issue (issued_kind body) (issued_body body)
