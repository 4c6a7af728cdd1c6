use Rattle.fix_fields.proofs.Decimals.{one_digit, two_digits, three_digits}
use Rattle.fix_printing.proofs.placed.put_short.Goals as goal

pub returns-then-number-ge100-clause-written : goal.returns-then-number-ge100-clause-written
returns-then-number-ge100-clause-written c =
    rw (
      three_digits c.args.number c.if-number-ge100.true c.requires.number,
      ← c.last_digit.ensures,
      ←
          c.last_digit-then-number-ge100.ensures,
      ← c.last_digit-then-number-ge100-2.ensures,
    ) c.put.ensures.written

pub returns-then-number-ge10-clause-written : goal.returns-then-number-ge10-clause-written
returns-then-number-ge10-clause-written c =
    rw (
      two_digits c.args.number c.if-number-ge10.true c.if-number-ge100.false,
      ← c.last_digit-then-number-ge10.ensures,
      ← c.last_digit-then-number-ge10-2.ensures,
    ) c.put-then-number-ge10.ensures.written

pub returns-clause-written : goal.returns-clause-written
returns-clause-written c = rw (one_digit c.args.number c.if-number-ge10.false, ← c.last_digit-2.ensures)
    c.put-2.ensures.written
