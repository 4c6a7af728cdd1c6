use Rattle.std.proofs.Common.{sym, ◌∙◌}
use Rattle.fix_fields.specs.Lent.{lent}
use Rattle.fix_fields.proofs.Faults.{no_fault}
use Rattle.fix_fields.proofs.fields.Fields.is_plain.Goals as goal

pub loop-i-preserved : goal.loop-i-preserved
loop-i-preserved c =
    no_fault c.args.self.now c.loop-i.i (lent c.at-field.result) c.at-field.ensures c.loop-i.invariant
    (sym c.is_empty.ensures ∙ c.if-is_empty.false) (c.is_new_behind.ensures c.if-not-is_new_behind.false)
