use Rattle.std.proofs.Common.{arith}
use Rattle.fix_fields.proofs.Printing.{printed-none}
use Rattle.fix_printing.proofs.printed.PrintedFields.clear.Goals as goal

pub invariant_of-self : goal.invariant_of-self
invariant_of-self c = (omega arith, printed-none.prints)

pub returns : goal.returns
returns c = printed-none.same
