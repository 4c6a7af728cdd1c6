use Rattle.std.proofs.Common.{arith}
use Rattle.fix_fields.proofs.TagPlaces.{known_there, digit_there, begun_ahead, begun_more}
use Rattle.fix_fields.proofs.known.with_digit.Goals as goal

pub overflow_mul-result : goal.overflow_mul-result
overflow_mul-result c =
    let more = begun_more c.args.text.now c.args.at c.args.begun c.requires.field c.requires.begun c.requires.digit in
    omega (arith, more.small)

pub bounds-text-begun : goal.bounds-text-begun
bounds-text-begun c = omega (
  arith,
  begun_ahead c.args.text.now c.args.at c.args.begun c.requires.field c.requires.begun c.requires.digit,
  (known_there c.args.text.now c.args.at c.requires.field).shorter,
)

pub overflow_sub-result : goal.overflow_sub-result
overflow_sub-result c =
    let digit = digit_there c.args.text.now c.args.at c.args.begun.end c.requires.begun.ordered
    (begun_ahead c.args.text.now c.args.at c.args.begun c.requires.field c.requires.begun c.requires.digit) in
    omega (arith, digit.0, c.from.ensures, c.from-2.ensures)

pub overflow_add-result : goal.overflow_add-result
overflow_add-result c =
    let more = begun_more c.args.text.now c.args.at c.args.begun c.requires.field c.requires.begun c.requires.digit in
    omega (arith, more.small, c.from.ensures)

pub overflow_add-result-2 : goal.overflow_add-result-2
overflow_add-result-2 c = omega (
  arith,
  begun_ahead c.args.text.now c.args.at c.args.begun c.requires.field c.requires.begun c.requires.digit,
  (known_there c.args.text.now c.args.at c.requires.field).shorter,
)

pub returns-clause-begun : goal.returns-clause-begun
returns-clause-begun c =
    let more = begun_more c.args.text.now c.args.at c.args.begun c.requires.field c.requires.begun c.requires.digit in
    let digit = digit_there c.args.text.now c.args.at c.args.begun.end c.requires.begun.ordered
    (begun_ahead c.args.text.now c.args.at c.args.begun c.requires.field c.requires.begun c.requires.digit) in
    record {
      ordered = omega (arith, c.requires.begun.ordered);
      most = omega (
        arith,
        begun_ahead c.args.text.now c.args.at c.args.begun c.requires.field c.requires.begun c.requires.digit,
      );
      number = omega (arith, digit.0, c.from.ensures, c.from-2.ensures, more.number);
    }
