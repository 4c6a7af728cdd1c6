use Rattle.std.proofs.Common.{◌≡◌, ◌∙◌, Option, Some, ap, subst, sym}
use Rattle.std.specs.Prelude.{unwrap_or}
use Rattle.std.specs.HashMap.{get}
use Rattle.gate_law.specs.fix_fields.Field.{Message, text}
use Rattle.order_law.specs.Reading.{Reading, unread}
use Rattle.gate_audit.specs.Kept.{IsReadAs, kept_of, same_order}
use Rattle.gate_audit.proofs.Keeping.{kept-more}
use Rattle.gate_audit.proofs.kept_readings.KeptReadings.hear.Goals as goal

pub returns : goal.returns
returns c = λ all are.
    let r : Message = c.args.report.now in
    let before : c.in_ok-before.before ≡ kept_of c.args.self.now c.in_ok-key.key =
    c.in_ok-before.ensures
    ∙ ap (λ (x : Option (Option Reading)). unwrap_or x (Some unread)) c.remove.ensures.value in
    kept-more c.args.client r all c.args.self.now (get same_order c.remove.new.self)
    (record { readings = c.insert.new.self }) c.in_ok-key.key c.in_ok-kept.kept
    c.in_ok-key.ensures.client (c.in_ok-key.ensures.order ∙ c.text.ensures.text)
    c.remove.ensures.updates.0 c.in_ok-insert.ensures.updates.0
    (λ sent read. c.in_ok-kept.ensures sent (subst (IsReadAs (text 37 r) sent) (sym before) read)) are
