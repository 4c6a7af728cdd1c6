use Rattle.std.proofs.Common.{◌≡◌, ◌∙◌, length, sym, ap, arith}
use Rattle.desk_steps.specs.Agreeing.{DeskState}
use Rattle.desk_steps.proofs.Turns.{dropped, looked-in, looked-out, own-first, owns-same}
use Rattle.desk_steps.proofs.turning.turn_at.Goals as goal

pub returns-then-is_empty-clause-does : goal.returns-then-is_empty-clause-does
returns-then-is_empty-clause-does g c = (
  looked-in c.args.place c.args.recorded.now c.args.side.now c.is_empty.new.self c.is_empty.ensures.consumers
      c.is_empty.ensures.producers c.is_empty.ensures.counts,
  c.is_empty.ensures.none c.if-is_empty.true,
)

pub returns-then-not-is_from-clause-does : goal.returns-then-not-is_from-clause-does
returns-then-not-is_from-clause-does g c = (
  record { recorded = c.args.recorded.now; side = c.is_empty.new.self },
  looked-in c.args.place c.args.recorded.now c.args.side.now c.is_empty.new.self c.is_empty.ensures.consumers
      c.is_empty.ensures.producers c.is_empty.ensures.counts,
  dropped c.args.place c.args.recorded.now c.is_empty.new.self c.pop.new.self c.front-event.result.now c.pop.result
      c.source.result
      (omega (arith, c.requires.inside, c.is_empty.ensures.consumers.count)) c.front-event.ensures c.source.ensures
      (sym c.is_from.ensures ∙ c.if-not-is_from.true) c.pop.ensures.consumers c.pop.ensures.producers
      c.pop.ensures.counts,
)

pub first_has_room-requires : goal.first_has_room-requires
first_has_room-requires g c = record {
  inside = omega (arith, c.requires.inside, c.is_empty.ensures.consumers.count);
  own = own-first c.args.place c.is_empty.new.self.consumers c.front-event.result.now c.source.result
      c.front-event.ensures
      c.source.ensures (sym c.is_from.ensures ∙ c.if-not-is_from.false);
}

pub returns-then-not-first_has_room-clause-does : goal.returns-then-not-first_has_room-clause-does
returns-then-not-first_has_room-clause-does g c =
    let looks = looked-in c.args.place c.args.recorded.now c.args.side.now c.is_empty.new.self
    c.is_empty.ensures.consumers
    c.is_empty.ensures.producers c.is_empty.ensures.counts in (
      looked-out c.args.place c.args.recorded.now c.args.side.now c.is_empty.new.self c.first_has_room.new.side looks
          c.first_has_room.ensures.consumers c.first_has_room.ensures.producers c.first_has_room.ensures.counts,
      c.first_has_room.ensures.held c.if-not-first_has_room.true,
    )

pub step_front-requires : goal.step_front-requires
step_front-requires g c = record {
  inside = omega (
    arith,
    c.requires.inside,
    c.is_empty.ensures.consumers.count,
    ap length
        c.first_has_room.ensures.consumers,
  );
  own = owns-same c.args.place c.is_empty.new.self.consumers c.first_has_room.new.side.consumers
      c.first_has_room.ensures.consumers
      (own-first c.args.place c.is_empty.new.self.consumers c.front-event.result.now c.source.result
      c.front-event.ensures
      c.source.ensures (sym c.is_from.ensures ∙ c.if-not-is_from.false));
}

pub returns-in-Ok-clause-does : goal.returns-in-Ok-clause-does
returns-in-Ok-clause-does g c =
    let looks = looked-in c.args.place c.args.recorded.now c.args.side.now c.is_empty.new.self
    c.is_empty.ensures.consumers
    c.is_empty.ensures.producers c.is_empty.ensures.counts in
    let m : DeskState = record { recorded = c.args.recorded.now; side = c.first_has_room.new.side } in
    let t : DeskState = record { recorded = c.step_front.new.recorded; side = c.step_front.new.side } in (
      m,
      looked-out c.args.place c.args.recorded.now c.args.side.now c.is_empty.new.self c.first_has_room.new.side looks
          c.first_has_room.ensures.consumers c.first_has_room.ensures.producers c.first_has_room.ensures.counts,
      c.in-Ok.ensures.ok,
      c.first_has_room.ensures.overflows c.if-not-first_has_room.false t c.in-Ok.ensures.ok,
      c.first_has_room.ensures.room c.if-not-first_has_room.false,
    )
