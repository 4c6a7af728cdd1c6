use Rattle.std.proofs.Common.{arith, sym, rules, []}
use Rattle.std.specs.Prelude.{unwrap_or}
use Rattle.fix_fields.specs.Reading.{fields_of}
use Rattle.fix_fields.proofs.Reading.{fields_of-found, fields_of-known}
use Rattle.fix_fields.proofs.Splitting.{field_ahead, first_remaining, first_more, first_found, first_end}
use Rattle.fix_fields.proofs.view.first_of.Goals as goal

pub known_front-span-requires : goal.known_front-span-requires
known_front-span-requires c =
    let text = c.args.text.now in
    let known = fields_of-known text c.requires in
    field_ahead text c.loop-at.at (unwrap_or (fields_of text) []) c.loop-at-test.true known.fields known.spelled
    (first_remaining c.args.tag text c.loop-at.at c.loop-at.invariant.ahead)

pub loop-at-preserved : goal.loop-at-preserved
loop-at-preserved c = record {
  within = omega (arith, c.known_front-span.ensures.ends);
  ahead = first_more c.args.tag c.args.text.now c.loop-at.at c.known_front-span.result c.loop-at-test.true
      c.known_front-span.ensures (search rules) c.loop-at.invariant.ahead;
}

pub returns : goal.returns
returns c = λ fields e.
    let found = fields_of-found c.args.text.now fields e in
    sym (first_end c.args.tag c.args.text.now c.loop-at.at c.loop-at-test.false c.loop-at.invariant.ahead fields
    found.fields found.spelled)

pub returns-then-span-tag : goal.returns-then-span-tag
returns-then-span-tag c = λ fields e.
    let found = fields_of-found c.args.text.now fields e in
    sym (first_found c.args.tag c.args.text.now c.loop-at.at c.known_front-span.result c.loop-at-test.true
    c.known_front-span.ensures (search rules) c.loop-at.invariant.ahead fields found.fields found.spelled)
