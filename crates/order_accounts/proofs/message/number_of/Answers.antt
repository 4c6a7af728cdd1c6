use Rattle.std.proofs.Common.{arith}
use Rattle.std.proofs.lemmas.Result.{err_from_is_err_and}
use Rattle.order_accounts.proofs.Numbers.{next_number, next_number-le}
use Rattle.order_accounts.proofs.message.number_of.Goals as goal

pub returns-in_err-product : goal.returns-in_err-product
returns-in_err-product c =
    let is_err = err_from_is_err_and c.from_residual.result c.from_residual.ensures.1 in
    let most = next_number-le c.loop-byte.number c.args.digits.now c.loop-byte.byte-index
    (omega arith) c.loop-byte.invariant.number in
    rw is_err.1 (λ fits. c.in_err-product.ensures (omega (arith, fits, most)))

pub returns-in_err-number : goal.returns-in_err-number
returns-in_err-number c =
    let is_err = err_from_is_err_and c.from_residual-in_err-number.result c.from_residual-in_err-number.ensures.1 in
    let most = next_number-le c.loop-byte.number c.args.digits.now c.loop-byte.byte-index
    (omega arith) c.loop-byte.invariant.number in
    rw is_err.1 (λ fits. c.in_err-number.ensures
    (omega (arith, fits, most, c.in_ok-product.ensures.1, c.from.ensures, c.digit_of.ensures)))

pub loop-byte-preserved : goal.loop-byte-preserved
loop-byte-preserved c = record {
  number = next_number c.loop-byte.number c.in_ok-number.number c.args.digits.now c.loop-byte.byte-index
      (omega arith) c.loop-byte.invariant.number
      (omega (arith, c.in_ok-number.ensures.1, c.in_ok-product.ensures.1, c.from.ensures, c.digit_of.ensures));
  fits = omega (arith, c.in_ok-number.ensures.0, c.in_ok-number.ensures.1);
}
