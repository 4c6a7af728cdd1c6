use Rattle.fix_fields.proofs.TagPlaces.{begun_whole, some_digit}
use Rattle.fix_fields.proofs.known.known_tag.Goals as goal

pub with_digit-one-requires-clause-digit : goal.with_digit-one-requires-clause-digit
with_digit-one-requires-clause-digit c = some_digit c.args.text.now c.args.at c.requires

pub returns-then-text-one-eq61 : goal.returns-then-text-one-eq61
returns-then-text-one-eq61 c =
    begun_whole c.args.text.now c.args.at c.with_digit-one.result c.requires c.with_digit-one.ensures.begun
    c.if-text-one-eq61.true

pub returns-then-text-two-eq61 : goal.returns-then-text-two-eq61
returns-then-text-two-eq61 c =
    begun_whole c.args.text.now c.args.at c.with_digit-two.result c.requires c.with_digit-two.ensures.begun
    c.if-text-two-eq61.true
