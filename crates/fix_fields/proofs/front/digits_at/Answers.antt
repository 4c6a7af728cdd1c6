use Rattle.std.proofs.Common.{arith, refl, sym, ◌+◌, ◌-◌, ◌*◌, ◌∙◌, get_or}
use Rattle.fix_fields.proofs.Ending.{digit_goes_on}
use Rattle.fix_fields.proofs.TagPlaces.{tenth, one_more_digit, first_byte}
use Rattle.fix_fields.proofs.front.digits_at.Goals as goal

pub returns-then-first-lt49 : goal.returns-then-first-lt49
returns-then-first-lt49 c f after good e =
    let first = first_byte c.args.text.now c.args.at f after good e in
    omega (arith, first.0)

pub returns-then-first-gt57 : goal.returns-then-first-gt57
returns-then-first-gt57 c f after good e =
    let first = first_byte c.args.text.now c.args.at f after good e in
    omega (arith, first.1)

pub returns-then-end-at-eq-MOST_DIGITS : goal.returns-then-end-at-eq-MOST_DIGITS
returns-then-end-at-eq-MOST_DIGITS c =
    tenth c.args.text.now c.args.at c.loop-at.end c.loop-at.invariant.within (omega arith) c.loop-at.invariant.ahead
    (sym c.is_ascii_digit.ensures.value ∙ c.loop-at-test.true)

pub overflow_mul-tag : goal.overflow_mul-tag
overflow_mul-tag c =
    let l = c.loop-at.invariant in
    let text = c.args.text.now in
    let more = one_more_digit text c.args.at c.loop-at.end c.loop-at.tag
    (c.loop-at.tag * 10 + (get_or text c.loop-at.end 0 - 48)) l.ordered l.within
    (omega arith) l.ahead l.digits l.number (sym c.is_ascii_digit.ensures.value ∙ c.loop-at-test.true) refl in
    omega (arith, more.small)

pub overflow_add-tag : goal.overflow_add-tag
overflow_add-tag c =
    let l = c.loop-at.invariant in
    let text = c.args.text.now in
    let more = one_more_digit text c.args.at c.loop-at.end c.loop-at.tag
    (c.loop-at.tag * 10 + (get_or text c.loop-at.end 0 - 48)) l.ordered l.within
    (omega arith) l.ahead l.digits l.number (sym c.is_ascii_digit.ensures.value ∙ c.loop-at-test.true) refl in
    omega (arith, more.small, c.from.ensures)

pub loop-at-preserved : goal.loop-at-preserved
loop-at-preserved c =
    let l = c.loop-at.invariant in
    let digit = sym c.is_ascii_digit.ensures.value ∙ c.loop-at-test.true in
    let more = one_more_digit c.args.text.now c.args.at c.loop-at.end c.loop-at.tag
    (c.loop-at.tag * 10 + c.from.result) l.ordered l.within (omega arith) l.ahead l.digits l.number digit
    (omega (arith, c.from.ensures)) in
    record {
      ordered = omega arith;
      within = digit_goes_on c.args.text.now c.loop-at.end c.requires.ended l.within digit;
      short = omega arith;
      ahead = more.ahead;
      digits = more.digits;
      number = more.number;
    }
