use Rattle.std.proofs.Common.{◌+◌, subst, arith}
use Rattle.desk_side.specs.Side.{AllKnowRoom, SideState}
use Rattle.desk_side.proofs.Arranging.{producers-arranged}
use Rattle.desk_side.proofs.Roomy.{producers-less-room}
use Rattle.desk_side.proofs.side.Side.has_room_everywhere.Goals as goal

pub returns-then-self-reserved-clause-room : goal.returns-then-self-reserved-clause-room
returns-then-self-reserved-clause-room c is =
    subst (λ (s : SideState). AllKnowRoom (c.args.reserved + 1) s.producers) c.self.view_is
    (producers-less-room (c.args.reserved + 1) c.self.inside.roomy c.self.inside.producers.items
    (omega (arith, c.if-self-reserved.true)) c.self.invariant.1)

pub invariant_of-self : goal.invariant_of-self
invariant_of-self c = (
  producers-arranged c.self.inside.clients c.self.inside.ports c.self.inside.consumers.items
      c.self.inside.producers.items
      c.least_room-self-inside.new.producers.items c.self.invariant.0
      c.least_room-self-inside.ensures.looked.count
      (λ d w at. let r = c.least_room-self-inside.ensures.looked.each d w at in (r.0, r.1, r.2.0)),
  c.least_room-self-inside.ensures.room,
)
