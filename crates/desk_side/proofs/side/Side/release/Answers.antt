use Rattle.desk_side.proofs.Arranging.{producers-arranged}
use Rattle.desk_side.proofs.Roomy.{release-room}
use Rattle.desk_side.proofs.side.Side.release.Goals as goal

pub invariant_of-self : goal.invariant_of-self
invariant_of-self c = (
  producers-arranged c.self.inside.clients c.self.inside.ports c.self.inside.consumers.items
      c.self.inside.producers.items
      c.release_each.new.producers.items c.self.invariant.0
      c.release_each.ensures.same.count (λ d w at. let r = c.release_each.ensures.same.each d w at in
      (r.0, r.1, r.2.0)),
  release-room c.self.inside.roomy c.self.inside.producers.items c.release_each.new.producers.items
      c.release_each.ensures.same
      c.self.invariant.1,
)
