use Rattle.fix_fields.proofs.Decimals.{four_digits, five_digits, six_digits}
use Rattle.fix_printing.proofs.placed.put_thousands.Goals as goal

pub returns-then-number-lt10000-clause-written : goal.returns-then-number-lt10000-clause-written
returns-then-number-lt10000-clause-written c =
    rw (
      four_digits c.args.number c.requires.number.0 c.if-number-lt10000.true,
      ← c.last_digit-thousands.ensures,
      ←
          c.last_digit-hundreds.ensures,
      ← c.last_digit-tens.ensures,
      ← c.last_digit-ones.ensures,
    ) c.put.ensures.written

pub returns-then-number-lt100000-clause-written : goal.returns-then-number-lt100000-clause-written
returns-then-number-lt100000-clause-written c =
    rw (
      five_digits c.args.number c.if-number-lt10000.false c.if-number-lt100000.true,
      ← c.last_digit-front.ensures,
      ←
          c.last_digit-thousands.ensures,
      ← c.last_digit-hundreds.ensures,
      ← c.last_digit-tens.ensures,
      ←
          c.last_digit-ones.ensures,
    ) c.put-then-number-lt100000.ensures.written

pub returns-clause-written : goal.returns-clause-written
returns-clause-written c =
    rw (
      six_digits c.args.number c.if-number-lt100000.false c.requires.number.1,
      ← c.last_digit-first.ensures,
      ←
          c.last_digit-front.ensures,
      ← c.last_digit-thousands.ensures,
      ← c.last_digit-hundreds.ensures,
      ←
          c.last_digit-tens.ensures,
      ← c.last_digit-ones.ensures,
    ) c.put-2.ensures.written
