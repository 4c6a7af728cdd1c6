use Rattle.std.proofs.Common.{ap, ◌∙◌}
use Rattle.fix_types.specs.Report.{report_of}
use Rattle.fix_types.proofs.WrittenReport.{report_passes, report_of-fields}
use Rattle.fix_types.proofs.report.ReportTextWireFieldsTextFault.get.Goals as goal

pub returns-in-Some-clause-read : goal.returns-in-Some-clause-read
returns-in-Some-clause-read c = λ m is e. absurd
    (report_passes c.args.fields.now c.in-Some.refusal c.in-Some.ensures m is e)

pub returns-in_ok-read_report-in-None-clause-read : goal.returns-in_ok-read_report-in-None-clause-read
returns-in_ok-read_report-in-None-clause-read c = λ m is e. c.in_ok-read_report-in-None.ensures.said ∙ ap report_of e
    ∙ report_of-fields m is
