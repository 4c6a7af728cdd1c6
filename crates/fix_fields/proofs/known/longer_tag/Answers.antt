use Rattle.std.proofs.Common.{arith}
use Rattle.fix_fields.proofs.TagPlaces.{known_there, begun_ahead, begun_whole}
use Rattle.fix_fields.proofs.known.longer_tag.Goals as goal

pub bounds-text-place : goal.bounds-text-place
bounds-text-place c = omega (
  arith,
  c.loop-place.invariant.most,
  (known_there c.args.text.now c.args.at c.requires.field).shorter,
)

pub loop-place-smaller : goal.loop-place-smaller
loop-place-smaller c = omega (
  arith,
  c.with_digit-place.ensures.further,
  begun_ahead c.args.text.now c.args.at c.loop-place.place c.requires.field c.loop-place.invariant
      c.loop-place-test.true,
  (known_there c.args.text.now c.args.at c.requires.field).shorter,
)

pub returns : goal.returns
returns c =
    begun_whole c.args.text.now c.args.at c.loop-place.place c.requires.field c.loop-place.invariant
    c.loop-place-test.false
