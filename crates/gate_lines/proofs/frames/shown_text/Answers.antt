use Rattle.std.proofs.Common.{◌∙◌, ap, ◌++◌}
use Rattle.fix_fields.specs.Lent.{lent}
use Rattle.gate_lines.specs.Frames.{shown_field}
use Rattle.gate_lines.proofs.Fields.{shown-next}
use Rattle.gate_lines.proofs.frames.shown_text.Goals as goal

pub loop-i-preserved : goal.loop-i-preserved
loop-i-preserved c =
    c.in_ok-push_field.ensures
    ∙ ap (λ text. text ++ shown_field c.args.with_number (lent c.at.result)) c.loop-i.invariant
    ∙ shown-next c.args.with_number c.args.fields.now c.loop-i.i (lent c.at.result) c.at.ensures
