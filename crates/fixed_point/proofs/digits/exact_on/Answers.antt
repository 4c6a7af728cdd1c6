use Rattle.std.proofs.Common.{◌*◌, ◌+◌, ◌-◌, get_or, refl, arith}
use Rattle.fixed_point.proofs.Exact.{exact_more, exact-le, exact_whole}
use Rattle.fixed_point.proofs.digits.exact_on.Goals as goal

pub returns-in_err-checked_mul : goal.returns-in_err-checked_mul
returns-in_err-checked_mul c =
    let i = c.loop-byte.byte-index in
    let ds = c.args.digits.now in
    let more = exact_more c.args.start c.loop-byte.number (c.loop-byte.number * 10 + (get_or ds i 0 - 48)) i ds
    (omega arith) c.loop-byte.invariant.number refl in
    rw c.from_residual.ensures (λ fits. c.in_err-checked_mul.ensures
    (omega (arith, fits, more, exact-le c.args.start (i + 1) ds (omega arith))))

pub returns-in_err-number : goal.returns-in_err-number
returns-in_err-number c =
    let i = c.loop-byte.byte-index in
    let ds = c.args.digits.now in
    let more = exact_more c.args.start c.loop-byte.number (c.loop-byte.number * 10 + (get_or ds i 0 - 48)) i ds
    (omega arith) c.loop-byte.invariant.number refl in
    rw c.from_residual-in_err-number.ensures (λ fits. c.in_err-number.ensures
    (omega (
      arith,
      fits,
      more,
      exact-le c.args.start (i + 1) ds
          (omega arith),
      c.in_ok-checked_mul.ensures.1,
      c.from-digit.ensures,
      c.saturating_sub.ensures,
    )))

pub loop-byte-preserved : goal.loop-byte-preserved
loop-byte-preserved c = record {
  number = exact_more c.args.start c.loop-byte.number c.in_ok-number.number c.loop-byte.byte-index c.args.digits.now
      (omega arith) c.loop-byte.invariant.number
      (omega (
        arith,
        c.in_ok-number.ensures.1,
        c.in_ok-checked_mul.ensures.1,
        c.from-digit.ensures,
        c.saturating_sub.ensures,
      ));
  fits = omega (arith, c.in_ok-number.ensures.0, c.in_ok-number.ensures.1);
}

pub returns : goal.returns
returns c =
    let whole = exact_whole c.args.start c.loop-byte.number c.loop-byte.byte-index c.args.digits.now (omega arith)
    (omega arith) c.loop-byte.invariant.number in
    (omega (arith, whole, c.loop-byte.invariant.fits), whole)
