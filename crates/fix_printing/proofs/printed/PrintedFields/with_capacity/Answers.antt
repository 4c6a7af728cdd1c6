use Rattle.std.proofs.Common.{arith}
use Rattle.fix_fields.proofs.Printing.{printed-none}
use Rattle.fix_printing.proofs.printed.PrintedFields.with_capacity.Goals as goal

pub invariant_of-result : goal.invariant_of-result
invariant_of-result c = (omega arith, printed-none.prints)

pub returns : goal.returns
returns c = printed-none.same
