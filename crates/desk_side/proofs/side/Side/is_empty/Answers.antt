use Rattle.std.proofs.Common.{refl}
use Rattle.desk_rings.specs.CoreEnds.{ConsumerLooked}
use Rattle.desk_side.proofs.Arranging.{SameConsumer, consumers-arranged}
use Rattle.desk_side.proofs.Moves.{each-change}
use Rattle.desk_side.proofs.side.Side.is_empty.Goals as goal

pub invariant_of-self : goal.invariant_of-self
invariant_of-self c = (
  consumers-arranged c.self.inside.clients c.self.inside.ports c.self.inside.consumers.items
      c.is_empty_at.new.consumers.items
      c.self.inside.producers.items c.self.invariant.0 c.is_empty_at.ensures.looked.count
      (each-change c.args.place ConsumerLooked SameConsumer c.self.inside.consumers.items
      c.is_empty_at.new.consumers.items
      c.is_empty_at.ensures.looked (λ a b at l. l.0) (λ a. refl)),
  c.self.invariant.1,
)
