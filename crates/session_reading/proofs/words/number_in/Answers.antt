use Rattle.std.proofs.Common.{◌≡◌, arith}
use Rattle.std.proofs.lemmas.Bool.Decides.{nat_tests}
use Rattle.std.specs.Prelude.{length, true, nat_le}
use Rattle.wire_bytes.proofs.Numbers.{number_of_few, number_of_small}
use Rattle.session_reading.proofs.words.number_in.Goals as goal

pub returns-clause-value : goal.returns-clause-value
returns-clause-value c =
    let some : nat_le 1 (length c.args.value.now) ≡ true = grind (arith, nat_tests) in
    let short : nat_le (length c.args.value.now) 18 ≡ true = grind (arith, nat_tests) in
    rw (some, short) (number_of_few c.number_of.result c.args.value.now c.number_of.ensures (omega arith))

pub returns-clause-small : goal.returns-clause-small
returns-clause-small c = number_of_small c.number_of.result c.args.value.now 18 c.number_of.ensures (omega arith)
