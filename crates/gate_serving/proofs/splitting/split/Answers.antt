use Rattle.std.proofs.Common.{◌≡◌, refl, rules, arith, map-id}
use Rattle.std.proofs.lemmas.List.{length_push}
use Rattle.std.proofs.lemmas.Slice.Zip.{all_zipped_more}
use Rattle.std.proofs.lemmas.Iterator.Adapters.{YieldsList-from_vec}
use Rattle.std.proofs.lemmas.Iterator.Consumers.{YieldsList-turn, YieldsList-end}
use Rattle.gate_serving.specs.Halves.{IsSplit}
use Rattle.gate_serving.proofs.splitting.split.Goals as goal

pub offset_bounds-slots-len : goal.offset_bounds-slots-len
offset_bounds-slots-len g c =
    let turn = YieldsList-turn (YieldsList-from_vec {s = c.into_iter-line-iterator.result} c.args.lines.items
    (search rules) (search rules))
    c.loop-line.yielded c.loop-line.line-iterator c.loop-line.yielded_by c.next.result c.next.new.self c.in-Some.line
    c.in-Some.is c.next.ensures.steps in
    omega (arith, turn.0, c.len.ensures, c.loop-line.invariant.count, c.requires.slots, c.args.lines.ok.0)

pub bounds-slots-len : goal.bounds-slots-len
bounds-slots-len g c =
    let turn = YieldsList-turn (YieldsList-from_vec {s = c.into_iter-line-iterator.result} c.args.lines.items
    (search rules) (search rules))
    c.loop-line.yielded c.loop-line.line-iterator c.loop-line.yielded_by c.next.result c.next.new.self c.in-Some.line
    c.in-Some.is c.next.ensures.steps in
    omega (arith, turn.0, c.len.ensures, c.loop-line.invariant.count, c.requires.slots, c.args.lines.ok.0)

pub loop-line-preserved : goal.loop-line-preserved
loop-line-preserved g c = record {
  can_next = tt;
  is_finite = tt;
  lines = rw c.in-Ok.ensures.items (all_zipped_more IsSplit _ _ c.in-Some.line _ c.loop-line.invariant.lines
      (refl, refl, refl, refl, refl, refl, refl, refl, refl, refl));
  count = omega (
    arith,
    length_push c.loop-line.yielded c.in-Some.line,
    c.in-Ok.ensures.len,
    c.loop-line.invariant.count,
  );
  room = omega (arith, c.push.ensures.capacity, c.loop-line.invariant.room);
}

pub unreachable-requires : goal.unreachable-requires
unreachable-requires g c =
    let turn = YieldsList-turn (YieldsList-from_vec {s = c.into_iter-line-iterator.result} c.args.lines.items
    (search rules) (search rules))
    c.loop-line.yielded c.loop-line.line-iterator c.loop-line.yielded_by c.next.result c.next.new.self c.in-Some.line
    c.in-Some.is c.next.ensures.steps in
    omega (
      arith,
      turn.0,
      c.in_default.ensures.full,
      c.loop-line.invariant.room,
      c.loop-line.invariant.count,
      c.args.lines.ok.0,
    )

pub returns : goal.returns
returns g c =
    let end = YieldsList-end (YieldsList-from_vec {s = c.into_iter-line-iterator.result} c.args.lines.items
    (search rules) (search rules))
    c.loop-line.yielded c.loop-line.line-iterator c.loop-line.yielded_by c.next.result c.next.new.self c.in-None.is
    c.next.ensures.steps in
    record { lines = rw (← end.0, map-id) c.loop-line.invariant.lines }
