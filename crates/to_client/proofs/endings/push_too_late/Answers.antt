use Rattle.std.proofs.Common.{◌++◌, List, [], map, sym, ap, ◌∙◌}
use Rattle.std.specs.Prelude.{option_to_list}
use Rattle.std.proofs.lemmas.Result.{IfOk-weaker}
use Rattle.orders.specs.fix_types.Application.{body_fields}
use Rattle.order_law.specs.fix_fields.Field.{Message}
use Rattle.to_client.proofs.Answered.{behind, last-shows, rest-shows, too_late-parts}
use Rattle.to_client.proofs.endings.push_too_late.Goals as goal

pub returns-clause-told : goal.returns-clause-told
returns-clause-told c =
    IfOk-weaker c.push_reject.result _ _
    (λ nothing told replaces cancel s shows is.
    behind (map body_fields c.args.bodies.now.items) [] (map body_fields c.push_rejects.new.bodies.items)
    (map body_fields c.push_reject.new.bodies.items) _ _
    (c.in_ok-push_rejects.ensures.told replaces (option_to_list cancel) s is.replaces_are is.are_replaces
    (rest-shows c.args.shown.now c.args.pending.now replaces cancel s shows is))
    (told cancel (record s { pending = [] }) is.cancel_is
    (last-shows c.args.shown.now c.args.pending.now replaces cancel s shows is))
    ∙ ap (λ (ms : List Message). map body_fields c.args.bodies.now.items ++ ms)
    (sym (too_late-parts c.args.shown.now c.args.pending.now replaces cancel s shows is)))
    c.push_reject.ensures.told
