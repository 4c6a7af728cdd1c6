use Rattle.std.proofs.Common.{◌++◌, List, [], ◌∷◌, map, sym, ap, ◌∙◌}
use Rattle.std.specs.Prelude.{option_to_list}
use Rattle.std.proofs.lemmas.Result.{IfOk-weaker}
use Rattle.orders.specs.fix_types.Application.{body_fields}
use Rattle.order_law.specs.fix_fields.Field.{Message}
use Rattle.to_client.proofs.Answered.{not_replaced-each, rest-shows}
use Rattle.to_client.proofs.endings.push_not_replaced.Goals as goal

pub returns-clause-told : goal.returns-clause-told
returns-clause-told c =
    IfOk-weaker c.push_rejects.result _ _
    (λ nothing told replaces cancel s shows is.
    told replaces (option_to_list cancel) s is.replaces_are is.are_replaces
    (rest-shows c.args.shown.now c.args.pending.now replaces cancel s shows is)
    ∙ ap (λ (ms : List Message). map body_fields c.args.bodies.now.items ++ ms)
    (sym (not_replaced-each c.args.shown.now c.args.pending.now replaces cancel s shows is (c.args.reason ∷ []))))
    c.push_rejects.ensures.told
