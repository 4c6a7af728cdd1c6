use Rattle.std.proofs.Common.{arith}
use Rattle.fix_fields.proofs.Ending.{not_ended, room_for_one, room_behind}
use Rattle.fix_fields.proofs.Reading.{fields_of-none}
use Rattle.fix_fields.proofs.Splitting.{none_stands, still_remaining, one_more, more_fields, more_places}
use Rattle.fix_fields.proofs.tested.places_in.Goals as goal

pub returns-then-not-is_ended : goal.returns-then-not-is_ended
returns-then-not-is_ended c = not_ended c.args.text.now c.is_ended.result c.if-not-is_ended.true
    c.is_ended.ensures.fields

pub returns-in_default : goal.returns-in_default
returns-in_default c = fields_of-none c.args.text.now
    (none_stands c.args.text.now c.loop-at.at c.loop-at-test.true c.loop-at.invariant.remaining c.in_default.ensures)

pub push_reserved-requires : goal.push_reserved-requires
push_reserved-requires c = omega (
  arith,
  room_for_one c.args.text.now c.loop-at.at _ c.loop-at.spans.items
      c.in-Some.span c.loop-at.invariant.within c.in-Some.ensures c.loop-at.invariant.room,
)

pub loop-at-preserved : goal.loop-at-preserved
loop-at-preserved c =
    let text = c.args.text.now in
    let at = c.loop-at.at in
    let span = c.in-Some.span in
    let front = c.in-Some.ensures in
    rw (c.push_reserved.ensures.items, c.push_reserved.ensures.capacity) (record {
      within = omega (arith, front.ends);
      places = more_places text at span c.loop-at.spans.items front c.loop-at.invariant.places;
      fields = more_fields text at span c.loop-at.spans.items front c.loop-at.invariant.fields;
      spelled = one_more text at span c.loop-at.spans.items c.loop-at.invariant.within front
          c.loop-at.invariant.spelled;
      remaining = still_remaining text at span c.loop-at-test.true front c.loop-at.invariant.remaining;
      room = room_behind text at _ c.loop-at.spans.items span c.loop-at.invariant.within front c.loop-at.invariant.room;
    })
