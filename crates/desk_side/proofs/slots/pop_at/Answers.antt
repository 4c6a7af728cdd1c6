use Rattle.std.proofs.Common.{◌<◌, length, subst}
use Rattle.desk_rings.specs.CoreEnds.{ConsumerGave, InletConsumerState}
use Rattle.desk_side.proofs.Moves.{changes-set, read-here}
use Rattle.desk_side.proofs.slots.pop_at.Goals as goal

pub pop-requires : goal.pop-requires
pop-requires c = record {
  some = read-here (λ (z : InletConsumerState). 0 < length z.known) c.args.consumers.now.items c.args.place
      c.index_mut.result.now
      c.index_mut.result.now c.requires.inside c.index_mut.ensures.value c.requires.some;
}

pub returns : goal.returns
returns c =
    let gave = subst (λ (z : InletConsumerState). ConsumerGave c.pop.result z c.pop.new.self) c.index_mut.ensures.value
    c.pop.ensures
    in
    changes-set (ConsumerGave c.pop.result) c.args.consumers.now.items c.args.place c.index_mut.result.now
    c.pop.new.self
    c.requires.inside gave
