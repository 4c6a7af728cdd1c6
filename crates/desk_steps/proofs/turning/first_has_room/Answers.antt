use Rattle.std.proofs.Common.{◌≡◌, ◌<◌, ◌∙◌, length, sym, ap, refl, arith}
use Rattle.gate_journal.specs.gate_law.After.{lists}
use Rattle.gate_events.specs.declared.event.Event.{Event}
use Rattle.gate_events.specs.Seen.{event_seen}
use Rattle.gate_core.specs.Targets.{client_for, port_for}
use Rattle.gate_journal.specs.Kept.{turns}
use Rattle.desk_side.specs.Side.{SideState}
use Rattle.desk_side.proofs.Moves.{producers-twice}
use Rattle.desk_steps.specs.Agreeing.{DeskState}
use Rattle.desk_steps.specs.Reserved.{reserved}
use Rattle.desk_steps.specs.Recorded.{Recorded}
use Rattle.desk_steps.proofs.Overflowing.{overflows-none, overflows-nowhere}
use Rattle.desk_steps.proofs.Turns.{IsFirst, at-same, everywhere, first-some, firsts-same, has-room, owns-same, waits}
use Rattle.desk_steps.proofs.turning.first_has_room.Goals as goal

pub front-requires : goal.front-requires
front-requires g c = record {
  inside = c.requires.inside;
  some = λ a at. first-some (c.requires.own a at).0 a (c.requires.own a at).1;
}

pub returns-then-has_room_everywhere-clause-room : goal.returns-then-has_room_everywhere-clause-room
returns-then-has_room_everywhere-clause-room g c so =
    let r : Recorded = c.args.recorded.now in
    let e : Event = c.front.result.now in
    let now : SideState = c.has_room_everywhere.new.self in
    let client = client_for r.settings (event_seen e) (lists r.settings (turns r.kept)) in
    let port = port_for r.settings (event_seen e) in
    has-room c.args.place r now e client port c.places_reserved-reserved.result
    (omega (arith, c.requires.inside, ap length c.has_room_everywhere.ensures.consumers))
    (at-same c.args.place (IsFirst e) c.args.side.now.consumers now.consumers c.has_room_everywhere.ensures.consumers
    c.front.ensures) refl refl c.places_reserved-reserved.ensures
    (everywhere c.places_reserved-reserved.result client port now.producers
    (c.has_room_everywhere.ensures.room c.if-has_room_everywhere.true))

pub returns-then-has_room_everywhere-clause-overflows : goal.returns-then-has_room_everywhere-clause-overflows
returns-then-has_room_everywhere-clause-overflows g c so t x =
    overflows-nowhere c.places_reserved-reserved.result c.args.place
    (record { recorded = c.args.recorded.now; side = c.has_room_everywhere.new.self }) t x
    (c.has_room_everywhere.ensures.room c.if-has_room_everywhere.true)

pub front-requires-2 : goal.front-requires-2
front-requires-2 g c =
    let own = owns-same c.args.place c.args.side.now.consumers c.has_room_everywhere.new.self.consumers
    c.has_room_everywhere.ensures.consumers c.requires.own in
    record {
      inside = omega (arith, c.requires.inside, ap length c.has_room_everywhere.ensures.consumers);
      some = λ a at. first-some (own a at).0 a (own a at).1;
    }

pub returns-clause-producers : goal.returns-clause-producers
returns-clause-producers g c = producers-twice c.args.side.now.producers c.has_room_everywhere.new.self.producers
    c.has_room.new.self.producers
    c.has_room_everywhere.ensures.producers c.has_room.ensures.producers

pub returns-clause-room : goal.returns-clause-room
returns-clause-room g c so =
    let consumers = c.has_room.ensures.consumers ∙ c.has_room_everywhere.ensures.consumers in
    let e : Event = c.front-2.result.now in
    let first = at-same c.args.place (IsFirst e) c.has_room_everywhere.new.self.consumers c.has_room.new.self.consumers
    c.has_room.ensures.consumers c.front-2.ensures in
    let before = at-same c.args.place (IsFirst c.front.result.now) c.args.side.now.consumers
    c.has_room.new.self.consumers consumers
    c.front.ensures in
    let inside : c.args.place < length c.has_room.new.self.consumers =
    omega (arith, c.requires.inside, ap length consumers) in
    let same : c.front.result.now ≡ e = firsts-same c.args.place c.has_room.new.self.consumers c.front.result.now e
    inside
    before first in
    has-room c.args.place c.args.recorded.now c.has_room.new.self e c.targets-targets.result.client
    c.targets-targets.result.port c.places_reserved-reserved.result inside first
    c.targets-targets.ensures.client c.targets-targets.ensures.port
    (c.places_reserved-reserved.ensures ∙ ap (λ (z : Event). reserved (event_seen z)) same)
    (c.has_room.ensures.room so)

pub returns-clause-overflows : goal.returns-clause-overflows
returns-clause-overflows g c so t x =
    let e : Event = c.front-2.result.now in
    overflows-none c.places_reserved-reserved.result c.args.place
    (record { recorded = c.args.recorded.now; side = c.has_room.new.self }) t x c.targets-targets.result.client
    c.targets-targets.result.port e
    (at-same c.args.place (IsFirst e) c.has_room_everywhere.new.self.consumers c.has_room.new.self.consumers
    c.has_room.ensures.consumers c.front-2.ensures)
    c.targets-targets.ensures.named (c.has_room.ensures.room so)

pub returns-clause-held : goal.returns-clause-held
returns-clause-held g c isnt =
    let consumers = c.has_room.ensures.consumers ∙ c.has_room_everywhere.ensures.consumers in
    let e : Event = c.front-2.result.now in
    let first = at-same c.args.place (IsFirst e) c.has_room_everywhere.new.self.consumers c.has_room.new.self.consumers
    c.has_room.ensures.consumers c.front-2.ensures in
    let before = at-same c.args.place (IsFirst c.front.result.now) c.args.side.now.consumers
    c.has_room.new.self.consumers consumers
    c.front.ensures in
    let inside : c.args.place < length c.has_room.new.self.consumers =
    omega (arith, c.requires.inside, ap length consumers) in
    let same : c.front.result.now ≡ e = firsts-same c.args.place c.has_room.new.self.consumers c.front.result.now e
    inside
    before first in
    waits c.args.place c.args.recorded.now c.has_room.new.self e c.targets-targets.result.client
    c.targets-targets.result.port c.places_reserved-reserved.result inside first
    (owns-same c.args.place c.args.side.now.consumers c.has_room.new.self.consumers consumers c.requires.own)
    c.targets-targets.ensures.client c.targets-targets.ensures.port
    (c.places_reserved-reserved.ensures ∙ ap (λ (z : Event). reserved (event_seen z)) same)
    (c.has_room.ensures.full isnt)
