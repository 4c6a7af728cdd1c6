use Rattle.std.proofs.Common.{◌++◌, Bool, List, map, sym, ap, ◌∙◌}
use Rattle.orders.specs.fix_types.Application.{body_fields}
use Rattle.order_law.specs.fix_fields.Field.{Message}
use Rattle.order_law.specs.Told as law
use Rattle.to_client.proofs.Answered.{rejected, without_cancel-shows}
use Rattle.to_client.proofs.endings.push_cancel_rejected.Goals as goal

pub returns-in_ok-push_reject-clause-told : goal.returns-in_ok-push_reject-clause-told
returns-in_ok-push_reject-clause-told c = λ replaces cancel s shows is.
    c.in_ok-push_reject.ensures.told cancel (law.without_cancel s) is.cancel_is
    (without_cancel-shows c.args.shown.now c.args.pending.now replaces cancel s shows is)
    ∙ ap (λ (ms : List Message). map body_fields c.args.bodies.now.items ++ ms)
    (sym (rejected c.args.shown.now c.args.pending.now replaces cancel s shows is))
    ∙ ap (λ (b : Bool). map body_fields c.args.bodies.now.items ++ law.cancel_rejected b s) (sym c.if-is_last.true)
