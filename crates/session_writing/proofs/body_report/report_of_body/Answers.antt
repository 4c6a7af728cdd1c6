use Rattle.std.proofs.Common.{ℕ, List, ◌++◌, None, ap, ◌∙◌}
use Rattle.fix_framing.specs.fix_fields.Field.{Field}
use Rattle.fix_stamp.specs.Stamp.{stamp_text}
use Rattle.session_reading.specs.session_law.Session.{fresh}
use Rattle.session_reading.specs.session_law.Frames.{frame_fields, issue_fields}
use Rattle.session_writing.specs.Issued.{issued_body}
use Rattle.session_writing.proofs.Fronts.{body-stands}
use Rattle.session_writing.proofs.body_report.report_of_body.Goals as goal

pub invariant_of-result : goal.invariant_of-result
invariant_of-result c =
    let body = issued_body c.args.body.now in
    (body-stands c.in_ok-printed.printed body
    (issue_fields stamp_text (fresh c.args.number c.args.kind body c.at.result)) c.push_body.new.fields
    c.in_ok-report.report c.size_of-start.result c.size_of-end.result
    c.in_ok-push_body.ensures (c.in_ok-report.ensures ∙ c.in_ok-push_issue.ensures body) c.size_of-end.ensures.fields
    c.size_of-start.ensures.size c.size_of-end.ensures.size).part

pub returns-clause-report : goal.returns-clause-report
returns-clause-report c =
    let body = issued_body c.args.body.now in
    c.in_ok-report.ensures
    ∙ c.in_ok-push_issue.ensures body
    ∙ ap (λ (fs : List Field). fs ++ issue_fields stamp_text (fresh c.args.number c.args.kind body c.at.result))
    (c.in_ok-push_body.ensures
    ∙ ap (λ (fs : List Field). fs ++ body) c.in_ok-printed.ensures)
    ∙ ap (λ (at : ℕ). frame_fields stamp_text c.args.names.now.gate c.args.names.now.client
    (fresh c.args.number c.args.kind body at)) c.at.ensures

pub returns-clause-body : goal.returns-clause-body
returns-clause-body c =
    let body = issued_body c.args.body.now in
    (body-stands c.in_ok-printed.printed body
    (issue_fields stamp_text (fresh c.args.number c.args.kind body c.at.result)) c.push_body.new.fields
    c.in_ok-report.report c.size_of-start.result c.size_of-end.result
    c.in_ok-push_body.ensures (c.in_ok-report.ensures ∙ c.in_ok-push_issue.ensures body) c.size_of-end.ensures.fields
    c.size_of-start.ensures.size c.size_of-end.ensures.size).same
