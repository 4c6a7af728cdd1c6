use Rattle.desk_side.proofs.Arranging.{consumers-arranged, producers-arranged}
use Rattle.desk_side.proofs.Roomy.{producers-looked-room}
use Rattle.desk_side.proofs.side.Side.compare.Goals as goal

pub invariant_of-self : goal.invariant_of-self
invariant_of-self g c = (
  producers-arranged c.self.inside.clients c.self.inside.ports c.compare.new.consumers.items
      c.self.inside.producers.items
      c.compare.new.producers.items
      (consumers-arranged c.self.inside.clients c.self.inside.ports c.self.inside.consumers.items
      c.compare.new.consumers.items
      c.self.inside.producers.items c.self.invariant.0 c.compare.ensures.consumers.count
      (λ k a at. let r = c.compare.ensures.consumers.each k a at in (r.0, r.1, r.2.0)))
      c.compare.ensures.producers.count
      (λ d w at. let r = c.compare.ensures.producers.each d w at in (r.0, r.1, r.2.0)),
  producers-looked-room c.self.inside.roomy c.self.inside.producers.items c.compare.new.producers.items
      c.compare.ensures.producers
      c.self.invariant.1,
)
