use Rattle.std.proofs.Common.{ap, ◌∙◌}
use Rattle.std.proofs.lemmas.Result.{IfOk-weaker}
use Rattle.orders.specs.fix_types.declared.report.Report.{Report}
use Rattle.orders.specs.fix_types.Report.{report_fields}
use Rattle.to_client.proofs.Reported.{report-told}
use Rattle.to_client.proofs.reporting.report_on.Goals as goal

pub returns : goal.returns
returns c = record {
  told = IfOk-weaker c.filled_in.result _ _
      (λ r is o s occasion shows. ap (λ (r : Report). report_fields r) is
      ∙ report-told c.args.number c.args.details.now c.args.request.now c.args.shown.now o s occasion shows)
      c.filled_in.ensures;
}
