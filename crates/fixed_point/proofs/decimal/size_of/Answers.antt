use Rattle.std.proofs.Common.{◌≡◌, ◌*◌, ◌^◌, length, sym, ap, ◌∙◌, arith}
use Rattle.fixed_point.specs.Steps.{capped}
use Rattle.fixed_point.proofs.Sizes.{not_float_empty, not_float_whole, not_float_near, not_float_far, read_none}
use Rattle.fixed_point.proofs.Sizes.{read_some, product_fits, all_are_digits, size_exact, size_inexact}
use Rattle.fixed_point.proofs.decimal.size_of.Goals as goal
use Rattle.fixed_point.proofs.decimal.size_of.Goals.{else-whole-eq0-via-then-whole-eq0+else-behind-eq0}
use Rattle.fixed_point.proofs.decimal.size_of.Goals.{else-whole-eq0-via-else-whole-eq0}

pub returns-then-behind-eq0 : goal.returns-then-behind-eq0
returns-then-behind-eq0 c =
    not_float_empty (10 ^ c.args.places) c.args.whole.now c.args.behind.now c.if-whole-eq0.true c.if-behind-eq0.true

pub returns-in_default : goal.returns-in_default
returns-in_default c =
    not_float_whole (10 ^ c.args.places) c.args.whole.now c.args.behind.now
    (read_none 0 c.args.whole.now (sym c.in_default.is ∙ c.read_on.ensures.value))

pub returns-in_default-read_on : goal.returns-in_default-read_on
returns-in_default-read_on c =
    let near = c.split_at.result.0.now in
    not_float_near (10 ^ c.args.places) c.min.result c.args.whole.now c.args.behind.now near c.split_at.ensures.front
    (read_none c.in-Some.start near (sym c.in_default-read_on.is ∙ c.read_on-2.ensures.value))

pub returns-then-not-are_digits : goal.returns-then-not-are_digits
returns-then-not-are_digits c =
    not_float_far (10 ^ c.args.places) c.min.result c.args.whole.now c.args.behind.now c.split_at.result.1.now
    c.split_at.ensures.back (sym c.if-not-are_digits.ensures)

pub returns-then-not-are_zeros : goal.returns-then-not-are_zeros
returns-then-not-are_zeros c =
    let whole = c.args.whole.now in
    let behind = c.args.behind.now in
    let near = c.split_at.result.0.now in
    let far = c.split_at.result.1.now in
    let first = read_some 0 c.in-Some.start whole (sym c.in-Some.is ∙ c.read_on.ensures.value) in
    let second = read_some c.in-Some.start c.in-Some-read_on.number near
    (sym c.in-Some-read_on.is ∙ c.read_on-2.ensures.value) in
    let some : length whole ≡ 0 → length behind ≡ 0 → ⊥ = λ e f.
    elim c.else-whole-eq0.branch [
      | else-whole-eq0-via-then-whole-eq0+else-behind-eq0 w ↦ w.if-behind-eq0.false f
      | else-whole-eq0-via-else-whole-eq0 w ↦ w.if-whole-eq0.false e
    ] in
    let digits = all_are_digits whole behind near far c.min.result c.split_at.ensures.front c.split_at.ensures.back
    first.0 second.0 (sym c.if-not-are_digits.ensures) some in
    size_inexact whole behind near far c.min.result c.args.places digits c.min.ensures c.split_at.ensures.front
    c.split_at.ensures.back (sym c.if-not-are_digits.ensures) (sym c.if-not-are_zeros.ensures)

pub overflow_mul-number : goal.overflow_mul-number
overflow_mul-number c =
    omega (
      arith,
      product_fits c.in-Some-read_on.number c.power_of_ten.result c.in-Some-read_on.ensures.at_most
          c.power_of_ten.ensures.at_most,
    )

pub returns : goal.returns
returns c =
    let whole = c.args.whole.now in
    let behind = c.args.behind.now in
    let near = c.split_at.result.0.now in
    let far = c.split_at.result.1.now in
    let first = read_some 0 c.in-Some.start whole (sym c.in-Some.is ∙ c.read_on.ensures.value) in
    let second = read_some c.in-Some.start c.in-Some-read_on.number near
    (sym c.in-Some-read_on.is ∙ c.read_on-2.ensures.value) in
    let some : length whole ≡ 0 → length behind ≡ 0 → ⊥ = λ e f.
    elim c.else-whole-eq0.branch [
      | else-whole-eq0-via-then-whole-eq0+else-behind-eq0 w ↦ w.if-behind-eq0.false f
      | else-whole-eq0-via-else-whole-eq0 w ↦ w.if-whole-eq0.false e
    ] in
    let digits = all_are_digits whole behind near far c.min.result c.split_at.ensures.front c.split_at.ensures.back
    first.0 second.0 (sym c.if-not-are_digits.ensures) some in
    size_exact whole behind near far c.in-Some.start c.in-Some-read_on.number c.min-2.result c.min.result c.args.places
    digits c.min.ensures c.split_at.ensures.front c.split_at.ensures.back first.1 second.1
    (sym c.if-not-are_zeros.ensures)
    (c.min-2.ensures ∙ ap (λ power. capped (c.in-Some-read_on.number * power)) c.power_of_ten.ensures.value)
