use Rattle.desk_side.proofs.Arranging.{producers-arranged}
use Rattle.desk_side.proofs.Roomy.{stage-room}
use Rattle.desk_side.proofs.side.Side.stage.Goals as goal

pub invariant_of-self : goal.invariant_of-self
invariant_of-self c = (
  producers-arranged c.self.inside.clients c.self.inside.ports c.self.inside.consumers.items
      c.self.inside.producers.items
      c.stage_each.new.producers.items c.self.invariant.0
      c.stage_each.ensures.same.count (λ d w at. let r = c.stage_each.ensures.same.each d w at in (r.0, r.1, r.2.0)),
  stage-room c.self.inside.roomy c.self.inside.producers.items c.stage_each.new.producers.items
      c.stage_each.ensures.same
      c.self.invariant.1,
)
