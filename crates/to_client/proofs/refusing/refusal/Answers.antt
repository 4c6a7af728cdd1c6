use Rattle.std.proofs.Common.{ap, ◌∙◌}
use Rattle.std.proofs.lemmas.Result.{IfOk-weaker}
use Rattle.orders.specs.fix_types.Report.{report_fields}
use Rattle.fix_values.specs.Reasons.{ord_rej_number}
use Rattle.to_client.proofs.Refused.{refusal-told}
use Rattle.to_client.proofs.refusing.refusal.Goals as goal

pub returns : goal.returns
returns c = record {
  told = IfOk-weaker c.refused.result _ _
      (λ r is. ap report_fields is ∙ refusal-told c.args.order_id c.args.exec_id
      (ord_rej_number c.args.code) c.args.why c.args.order.now)
      c.refused.ensures;
}
