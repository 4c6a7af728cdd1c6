use Rattle.std.proofs.Common.{arith}
use Rattle.fix_values.proofs.Inside.{inside-decimal}
use Rattle.fix_values.proofs.field_value.FieldValue.number.Goals as goal

pub invariant_of-result : goal.invariant_of-result
invariant_of-result c = inside-decimal c.args.number (omega arith)
