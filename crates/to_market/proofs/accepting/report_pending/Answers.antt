use Rattle.std.proofs.Common.{List, [], ◌∷◌, ◌++◌, map, ap, ◌∙◌}
use Rattle.fix_types.specs.declared.application.AppBody.{AppBody}
use Rattle.fix_types.specs.Application.{body_fields}
use Rattle.fix_types.specs.Report.{report_fields}
use Rattle.order_machine.specs.fix_fields.Field.{Message}
use Rattle.order_machine.specs.OrderRecord.{shown_as}
use Rattle.to_market.proofs.accepting.report_pending.Goals as goal

pub returns : goal.returns
returns c =
    c.in_ok-push_report.ensures.told
    ∙ ap (λ (bs : List AppBody). map body_fields bs ++ report_fields c.in_ok-report.report ∷ [])
    c.in_ok-bodies.ensures.items
    ∙ ap (λ (m : Message). m ∷ []) (c.in_ok-report.ensures.told (shown_as c.args.order.now) c.shown_now.ensures)
