use Rattle.std.proofs.Common.{◌++◌, List, [], map, refl, subst, sym, ap, ◌∙◌, codes}
use Rattle.std.proofs.lemmas.Result.{IfOk-weaker}
use Rattle.orders.specs.fix_types.Report.{report_fields}
use Rattle.fix_values.specs.Slots.{char_text}
use Rattle.orders.specs.fix_types.Application.{body_fields}
use Rattle.order_law.specs.fix_fields.Field.{Message}
use Rattle.order_law.specs.Told as law
use Rattle.to_client.specs.declared.occasion.Details.{Details}
use Rattle.to_client.specs.Shows.{IsOccasion}
use Rattle.to_client.proofs.Answered.{behind, cancelled-is, last-shows, without_cancel-shows}
use Rattle.to_client.proofs.endings.push_canceled.Goals as goal

pub returns-clause-told : goal.returns-clause-told
returns-clause-told c =
    IfOk-weaker c.push_rejects.result _ _
    (λ nothing told replaces cancel s shows is.
    let occasion : law.Occasion = record (law.plain (codes "4")) { request = cancel; why = char_text c.args.reason } in
    let of_it : IsOccasion c.fields_given_by-details.result c.args.pending.now.cancel occasion =
    subst (λ (d : Details). IsOccasion d c.args.pending.now.cancel occasion) (sym c.fields_given_by-details.ensures)
    (record {
      request = is.cancel_is;
      exec_type = refl;
      broken = refl;
      code = refl;
      restated = refl;
      shares =
          refl;
      at = refl;
      why = refl;
    }) in
    let reported = c.in_ok-report.ensures.told occasion (law.without_cancel s) of_it
    (without_cancel-shows c.args.shown.now c.args.pending.now replaces cancel s shows is) in
    behind (map body_fields c.args.bodies.now.items) [] (map body_fields c.push_report.new.bodies.items)
    (map body_fields c.push_rejects.new.bodies.items) _ _
    c.in_ok-push_report.ensures.told
    (told replaces [] s is.replaces_are is.are_replaces
    (last-shows c.args.shown.now c.args.pending.now replaces cancel s shows is))
    ∙ ap (λ (ms : List Message). map body_fields c.args.bodies.now.items ++ ms)
    (cancelled-is c.args.shown.now c.args.pending.now replaces cancel s shows is c.args.number
    (char_text c.args.reason) (report_fields c.in_ok-report.report) reported))
    c.push_rejects.ensures.told
