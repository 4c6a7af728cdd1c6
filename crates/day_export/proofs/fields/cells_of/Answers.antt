use Rattle.std.proofs.Common.{◌∙◌, ap, ◌++◌}
use Rattle.fix_fields.specs.Lent.{lent}
use Rattle.day_export.specs.Said.{said_of}
use Rattle.day_export.proofs.Listed.{said-next}
use Rattle.day_export.proofs.fields.cells_of.Goals as goal

pub loop-i-preserved : goal.loop-i-preserved
loop-i-preserved c =
    c.in_ok-push_field.ensures
    ∙ ap (λ cells. cells ++ said_of (lent c.at.result)) c.loop-i.invariant
    ∙ said-next c.args.fields.now c.loop-i.i (lent c.at.result) c.at.ensures
