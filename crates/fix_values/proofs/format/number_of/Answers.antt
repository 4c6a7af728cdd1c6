use Rattle.std.proofs.Common.{arith}
use Rattle.std.proofs.lemmas.Bool.Decides.{nat_tests}
use Rattle.fix_values.proofs.Numbers.{number_read}
use Rattle.fix_values.proofs.format.number_of.Goals as goal

pub returns : goal.returns
returns c = number_read c.number_of.result c.args.digits.now c.number_of.ensures (grind (arith, nat_tests))
    (omega arith)
