use Rattle.desk_side.proofs.Arranging.{are-arranged}
use Rattle.desk_side.proofs.opening.open_side.Goals as goal

pub new-requires : goal.new-requires
new-requires c = record {
  arranged = are-arranged c.args.clients c.args.ports c.in_ok-sources.sources.items c.in_ok-recipients.recipients.items
      c.in_ok-inlets.inlets.items c.in_ok-inlets.consumers.items c.in_ok-producers.producers.items
      c.in_ok-producers.outlets.items
      c.in_ok-sources.ensures.count c.in_ok-sources.ensures.each c.in_ok-recipients.ensures.count
      c.in_ok-recipients.ensures.each
      (rw c.as_slice.ensures.value at c.in_ok-inlets.ensures)
      (rw c.as_slice-2.ensures.value at c.in_ok-producers.ensures);
}
