use Rattle.std.proofs.Common.{rules}
use Rattle.std.proofs.lemmas.Result.{IfOk-weaker}
use Rattle.to_client.proofs.OnRequests.{pending-told}
use Rattle.to_client.proofs.request_reports.report_pending.Goals as goal

pub returns : goal.returns
returns c =
    let q = c.args.request.now in
    IfOk-weaker c.report_on.result _ _
    (λ r tells e s is shows. pending-told q.kind c.args.number c.plain-details.result q c.with_request-shown.result r e
    s (search rules) is.kind tells is (c.with_request-shown.ensures e s is.kind shows))
    c.report_on.ensures.told
