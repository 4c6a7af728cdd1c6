use Rattle.std.proofs.Common.{◌≡◌, ◌∙◌}
use Rattle.std.proofs.lemmas.Result.{on_ok_weaker}
use Rattle.fix_values.proofs.Lookups.{appended-both}
use Rattle.fix_values.specs.Slots.{appended}
use Rattle.fix_types.specs.Report.{head_slots, amount_slots}
use Rattle.fix_types.proofs.report.Report.push_body.Goals as goal

pub returns-clause-body : goal.returns-clause-body
returns-clause-body c =
    let head : c.push_head.new.fields ≡ appended c.args.fields.now (head_slots c.args.self.now) =
    c.in_ok-push_head.ensures.written in
    on_ok_weaker c.push_amounts.result (λ tail. tail
    ∙ (rw head (appended-both c.args.fields.now (head_slots c.args.self.now) (amount_slots c.args.self.now))))
    c.push_amounts.ensures.written
