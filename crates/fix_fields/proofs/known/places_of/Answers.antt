use Rattle.std.proofs.Common.{arith, []}
use Rattle.std.specs.Prelude.{unwrap_or}
use Rattle.fix_fields.specs.Reading.{fields_of}
use Rattle.fix_fields.proofs.Ending.{room_for_one, room_behind}
use Rattle.fix_fields.proofs.Reading.{fields_of-known}
use Rattle.fix_fields.proofs.Splitting.{field_ahead, still_remaining, one_more, more_fields, more_places}
use Rattle.fix_fields.proofs.known.places_of.Goals as goal

pub known_front-span-requires : goal.known_front-span-requires
known_front-span-requires c =
    let text = c.args.text.now in
    let known = fields_of-known text c.requires in
    field_ahead text c.loop-at.at (unwrap_or (fields_of text) []) c.loop-at-test.true known.fields known.spelled
    c.loop-at.invariant.remaining

pub push_reserved-requires : goal.push_reserved-requires
push_reserved-requires c = omega (
  arith,
  room_for_one c.args.text.now c.loop-at.at _ c.loop-at.spans.items
      c.known_front-span.result c.loop-at.invariant.within c.known_front-span.ensures c.loop-at.invariant.room,
)

pub loop-at-preserved : goal.loop-at-preserved
loop-at-preserved c =
    let text = c.args.text.now in
    let at = c.loop-at.at in
    let span = c.known_front-span.result in
    let front = c.known_front-span.ensures in
    rw (c.push_reserved.ensures.items, c.push_reserved.ensures.capacity) (record {
      within = omega (arith, front.ends);
      places = more_places text at span c.loop-at.spans.items front c.loop-at.invariant.places;
      fields = more_fields text at span c.loop-at.spans.items front c.loop-at.invariant.fields;
      spelled = one_more text at span c.loop-at.spans.items c.loop-at.invariant.within front
          c.loop-at.invariant.spelled;
      remaining = still_remaining text at span c.loop-at-test.true front c.loop-at.invariant.remaining;
      room = room_behind text at _ c.loop-at.spans.items span c.loop-at.invariant.within front c.loop-at.invariant.room;
    })
