use Rattle.std.proofs.Common.{◌≡◌, ◌∙◌, Bool, true, false, Some, sym, refl}
use Rattle.std.specs.Prelude.{not}
use Rattle.desk_side.specs.Places.{client_place, port_place}
use Rattle.desk_side.proofs.Arranging.{producers-arranged}
use Rattle.desk_side.proofs.Moves.{producers-twice}
use Rattle.desk_side.proofs.Roomy.{producers-looked-room}
use Rattle.desk_side.proofs.Telling.{client-held, have-room, port-held}
use Rattle.desk_side.proofs.side.Side.has_room.Goals as goal

not-true : (b : Bool) → not b ≡ true → b ≡ false
not-true true h = absurd (cc h)
not-true false h = refl

not-false : (b : Bool) → not b ≡ false → b ≡ true
not-false true h = refl
not-false false h = absurd (cc h)

pub invariant_of-self : goal.invariant_of-self
invariant_of-self c = (
  producers-arranged c.self.inside.clients c.self.inside.ports c.self.inside.consumers.items
      c.self.inside.producers.items
      c.is_full_at.new.producers.items c.self.invariant.0
      c.is_full_at.ensures.looked.count (λ d w at. let r = c.is_full_at.ensures.looked.each d w at in
      (r.0, r.1, r.2.0)),
  producers-looked-room c.self.inside.roomy c.self.inside.producers.items c.is_full_at.new.producers.items
      c.is_full_at.ensures.looked
      c.self.invariant.1,
)

pub returns-then-is_full_at-clause-full : goal.returns-then-is_full_at-clause-full
returns-then-is_full_at-clause-full c isnt =
    let new = producers-arranged c.self.inside.clients c.self.inside.ports c.self.inside.consumers.items
    c.self.inside.producers.items
    c.is_full_at.new.producers.items c.self.invariant.0
    c.is_full_at.ensures.looked.count (λ d w at. let r = c.is_full_at.ensures.looked.each d w at in (r.0, r.1, r.2.0))
    in
    let full = c.is_full_at.ensures.full c.if-is_full_at.true in
    let place : client_place c.self.inside.clients c.args.client ≡ Some full.0 = sym c.place_of_client-client.ensures
    ∙ full.2 in
    client-held c.args.reserved c.self.inside.clients c.self.inside.ports c.args.client c.args.port
    c.is_full_at.new.producers.items new.recipients new.producer_count full.0 full.1 place full.3 full.4 full.5

pub invariant_of-self-2 : goal.invariant_of-self-2
invariant_of-self-2 c =
    let looked = producers-twice c.self.inside.producers.items c.is_full_at.new.producers.items
    c.is_full_at-2.new.producers.items
    c.is_full_at.ensures.looked c.is_full_at-2.ensures.looked in (
      producers-arranged c.self.inside.clients c.self.inside.ports c.self.inside.consumers.items
          c.self.inside.producers.items
          c.is_full_at-2.new.producers.items c.self.invariant.0
          looked.count (λ d w at. let r = looked.each d w at in (r.0, r.1, r.2.0)),
      producers-looked-room c.self.inside.roomy c.self.inside.producers.items c.is_full_at-2.new.producers.items looked
          c.self.invariant.1,
    )

pub returns-clause-room : goal.returns-clause-room
returns-clause-room c is =
    let looked = producers-twice c.self.inside.producers.items c.is_full_at.new.producers.items
    c.is_full_at-2.new.producers.items
    c.is_full_at.ensures.looked c.is_full_at-2.ensures.looked in
    let new = producers-arranged c.self.inside.clients c.self.inside.ports c.self.inside.consumers.items
    c.self.inside.producers.items
    c.is_full_at-2.new.producers.items c.self.invariant.0
    looked.count (λ d w at. let r = looked.each d w at in (r.0, r.1, r.2.0)) in
    have-room c.args.reserved c.self.inside.clients c.self.inside.ports c.args.client c.args.port
    c.is_full_at-2.new.producers.items new.recipients new.producer_count
    c.is_full_at.new.producers.items c.is_full_at-2.ensures.looked
    (λ d w place at. c.is_full_at.ensures.room c.if-is_full_at.false d w (c.place_of_client-client.ensures ∙ place) at)
    (λ d w place at. c.is_full_at-2.ensures.room (not-true c.is_full_at-2.result is) d w
    (c.place_of_port-port.ensures ∙ place) at)

pub returns-clause-full : goal.returns-clause-full
returns-clause-full c is =
    let looked = producers-twice c.self.inside.producers.items c.is_full_at.new.producers.items
    c.is_full_at-2.new.producers.items
    c.is_full_at.ensures.looked c.is_full_at-2.ensures.looked in
    let new = producers-arranged c.self.inside.clients c.self.inside.ports c.self.inside.consumers.items
    c.self.inside.producers.items
    c.is_full_at-2.new.producers.items c.self.invariant.0
    looked.count (λ d w at. let r = looked.each d w at in (r.0, r.1, r.2.0)) in
    let full = c.is_full_at-2.ensures.full (not-false c.is_full_at-2.result is) in
    let place : port_place c.self.inside.clients c.self.inside.ports c.args.port ≡ Some full.0 =
    sym c.place_of_port-port.ensures ∙ full.2 in
    port-held c.args.reserved c.self.inside.clients c.self.inside.ports c.args.client c.args.port
    c.is_full_at-2.new.producers.items new.recipients new.producer_count full.0 full.1 place full.3 full.4 full.5
