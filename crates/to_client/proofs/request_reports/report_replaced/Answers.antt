use Rattle.std.proofs.Common.{rules}
use Rattle.std.proofs.lemmas.Result.{IfOk-weaker}
use Rattle.to_client.proofs.OnRequests.{replaced-told}
use Rattle.to_client.proofs.request_reports.report_replaced.Goals as goal

pub returns : goal.returns
returns c =
    let q = c.args.request.now in
    IfOk-weaker c.report_on.result _ _ (λ r tells e s is shows. replaced-told c.args.number c.plain.result q
    c.args.shown.now r e s (search rules) tells is shows) c.report_on.ensures.told
