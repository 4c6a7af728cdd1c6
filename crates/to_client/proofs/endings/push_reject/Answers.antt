use Rattle.fix_values.specs.Reasons.{cxl_rej_number}
use Rattle.to_client.proofs.Answered.{pushed-reject}
use Rattle.to_client.proofs.endings.push_reject.Goals as goal

pub returns-in_ok-push-clause-told : goal.returns-in_ok-push-clause-told
returns-in_ok-push-clause-told c = λ q s asks shows.
    pushed-reject c.args.request.now c.in-Some.request c.in-Some.is q s c.args.shown.now c.in_ok-reject.reject
    (cxl_rej_number c.args.code) c.in_ok-text.text c.args.text.now c.in_ok-text.ensures c.args.bodies.now.items
    c.push.new.self.items asks shows
    c.in_ok-reject.ensures
    c.in_ok-push.ensures.items
