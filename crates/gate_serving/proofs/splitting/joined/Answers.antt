use Rattle.std.proofs.Common.{◌≡◌, refl, rules, arith, Bool, true, map-id}
use Rattle.std.proofs.lemmas.List.{length_push}
use Rattle.std.proofs.lemmas.List.Elements.{All-push}
use Rattle.std.proofs.lemmas.Slice.Zip.{all_zipped_more}
use Rattle.std.proofs.lemmas.Iterator.Adapters.{YieldsList-from_vec}
use Rattle.std.proofs.lemmas.Iterator.Consumers.{YieldsList-turn, YieldsList-end}
use Rattle.gate_serving.specs.Halves.{IsJoined}
use Rattle.gate_serving.proofs.splitting.joined.Goals as goal

pub loop-reads-preserved : goal.loop-reads-preserved
loop-reads-preserved g c = record {
  can_next = tt;
  is_finite = tt;
  lines = rw c.in-Ok.ensures.items (all_zipped_more IsJoined _ _
      (c.in-Some.reads, c.in-Some.writes) _ c.loop-reads.invariant.lines (refl, refl, refl, refl, refl, refl));
  over = λ e. All-push (λ x. ◌≡◌ {A = Bool} x.0.all_over true) _ (c.in-Some.reads, c.in-Some.writes)
      (c.loop-reads.invariant.over (c.both-all_over.ensures e).0) (c.both-all_over.ensures e).1;
  count = omega (
    arith,
    length_push c.loop-reads.yielded
        (c.in-Some.reads, c.in-Some.writes),
    c.in-Ok.ensures.len,
    c.loop-reads.invariant.count,
  );
  room = omega (arith, c.push.ensures.capacity, c.loop-reads.invariant.room);
}

pub unreachable-requires : goal.unreachable-requires
unreachable-requires g c =
    let turn = YieldsList-turn (YieldsList-from_vec {s = c.into_iter-reads-iterator.result} c.args.halves.items
    (search rules) (search rules))
    c.loop-reads.yielded c.loop-reads.reads-iterator c.loop-reads.yielded_by c.next.result c.next.new.self
    (c.in-Some.reads, c.in-Some.writes) c.in-Some.is c.next.ensures.steps in
    omega (
      arith,
      turn.0,
      c.in_default.ensures.full,
      c.loop-reads.invariant.room,
      c.loop-reads.invariant.count,
      c.args.halves.ok.0,
    )

pub returns-clause-lines : goal.returns-clause-lines
returns-clause-lines g c =
    let end = YieldsList-end (YieldsList-from_vec {s = c.into_iter-reads-iterator.result} c.args.halves.items
    (search rules) (search rules))
    c.loop-reads.yielded c.loop-reads.reads-iterator c.loop-reads.yielded_by c.next.result c.next.new.self c.in-None.is
    c.next.ensures.steps in
    rw (← end.0, map-id) c.loop-reads.invariant.lines

pub returns-clause-all_over : goal.returns-clause-all_over
returns-clause-all_over g c =
    let end = YieldsList-end (YieldsList-from_vec {s = c.into_iter-reads-iterator.result} c.args.halves.items
    (search rules) (search rules))
    c.loop-reads.yielded c.loop-reads.reads-iterator c.loop-reads.yielded_by c.next.result c.next.new.self c.in-None.is
    c.next.ensures.steps in
    λ e. rw (← end.0, map-id) (c.loop-reads.invariant.over e)
