use Rattle.std.proofs.Common.{◌+◌, sym, arith}
use Rattle.wire_bytes.proofs.Numbers.{number_of_more, number_of-take-le, all_digits_more}
use Rattle.wire_bytes.proofs.digits.number_of.Goals as goal

pub returns-in_err-checked_mul : goal.returns-in_err-checked_mul
returns-in_err-checked_mul c =
    let i = c.loop-byte.byte-index in
    let ds = c.args.digits.now in
    rw c.from_residual.ensures (λ fits. c.in_err-checked_mul.ensures
    (omega (arith, fits.1, number_of_more ds i (omega arith), number_of-take-le ds (i + 1))))

pub returns-in_err-number : goal.returns-in_err-number
returns-in_err-number c =
    let i = c.loop-byte.byte-index in
    let ds = c.args.digits.now in
    rw c.from_residual-in_err-number.ensures (λ fits. c.in_err-number.ensures
    (omega (
      arith,
      fits.1,
      number_of_more ds i (omega arith),
      number_of-take-le ds
          (i + 1),
      c.in_ok-checked_mul.ensures.1,
      c.from.ensures,
    )))

pub loop-byte-preserved : goal.loop-byte-preserved
loop-byte-preserved c =
    let i = c.loop-byte.byte-index in
    let ds = c.args.digits.now in
    record {
      digits = all_digits_more ds i (omega arith) c.loop-byte.invariant.digits
          (sym c.if-not-is_ascii_digit.ensures.value);
      number = omega (
        arith,
        number_of_more ds i
            (omega arith),
        c.in_ok-number.ensures.1,
        c.in_ok-checked_mul.ensures.1,
        c.from.ensures,
      );
      fits = omega (arith, c.in_ok-number.ensures.0, c.in_ok-number.ensures.1);
    }
