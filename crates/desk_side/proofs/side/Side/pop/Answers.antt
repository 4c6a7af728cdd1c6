use Rattle.std.proofs.Common.{refl}
use Rattle.desk_rings.specs.CoreEnds.{ConsumerGave}
use Rattle.desk_side.proofs.Arranging.{SameConsumer, consumers-arranged}
use Rattle.desk_side.proofs.Moves.{each-change}
use Rattle.desk_side.proofs.side.Side.pop.Goals as goal

pub invariant_of-self : goal.invariant_of-self
invariant_of-self c = (
  consumers-arranged c.self.inside.clients c.self.inside.ports c.self.inside.consumers.items
      c.pop_at.new.consumers.items
      c.self.inside.producers.items c.self.invariant.0 c.pop_at.ensures.count
      (each-change c.args.place (ConsumerGave c.pop_at.result) SameConsumer c.self.inside.consumers.items
      c.pop_at.new.consumers.items
      c.pop_at.ensures (λ a b at g. g.0) (λ a. refl)),
  c.self.invariant.1,
)
