use Rattle.std.proofs.Common.{map}
use Rattle.std.proofs.lemmas.Result.{IfOk-weaker}
use Rattle.fix_values.specs.Reasons.{cxl_rej_number}
use Rattle.orders.specs.fix_types.Application.{body_fields}
use Rattle.to_client.proofs.Rejects.{told-each}
use Rattle.to_client.proofs.endings.+push_rejects.Goals as goal

pub returns-clause-told : goal.returns-clause-told
returns-clause-told t c =
    IfOk-weaker c.push_rejects.result _ _
    (λ nothing told.
    told-each c.args.shown.now c.args.replaces.now c.first-item.result c.of_replace.result
    (cxl_rej_number c.args.code) c.args.why.now c.args.further.now c.is_empty.result
    (map body_fields c.args.bodies.now.items) (map body_fields c.push_reject.new.bodies.items)
    (map body_fields c.push_rejects.new.bodies.items)
    c.first-item.is c.in-len1-up.len_at_least c.of_replace.ensures c.is_empty.ensures c.in_ok-push_reject.ensures.told
    told)
    c.push_rejects.ensures.told
