use Rattle.std.proofs.Common.{◌≡◌, ◌+◌, ◌*◌, ◌^◌, ◌-◌, length, arith}
use Rattle.wire_bytes.specs.Digits.{number_of}
use Rattle.fixed_point.proofs.Exact.{front-le, zeros-le}
use Rattle.wire_bytes.proofs.Numbers.{power_of_ten-pos}
use Rattle.fixed_point.proofs.worth.units_of.Goals as goal

pub returns-in_err-exact_on : goal.returns-in_err-exact_on
returns-in_err-exact_on c =
    let near = length c.args.behind.now in
    let le = front-le (number_of c.args.whole.now) (10 ^ near) (number_of c.args.behind.now) (10 ^ (4 - near))
    (power_of_ten-pos near) (power_of_ten-pos (4 - near)) in
    rw c.from_residual.ensures (λ fits. c.in_err-exact_on.ensures (omega (arith, fits, le)))

pub returns-in_err-number : goal.returns-in_err-number
returns-in_err-number c =
    let near = length c.args.behind.now in
    let start : c.in_ok-exact_on.field-0 ≡ number_of c.args.whole.now = omega (arith, c.in_ok-exact_on.ensures.1) in
    let le = zeros-le (number_of c.args.whole.now * 10 ^ near + number_of c.args.behind.now) (10 ^ (4 - near))
    (power_of_ten-pos (4 - near)) in
    rw c.from_residual-in_err-number.ensures (λ fits. c.in_err-number.ensures (rw start (omega (arith, fits, le))))
