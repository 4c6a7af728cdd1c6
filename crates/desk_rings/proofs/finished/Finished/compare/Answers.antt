use Rattle.desk_rings.proofs.Naming.{put-borne-out, consumers-stay, took-borne-out, producers-stay}
use Rattle.desk_rings.proofs.finished.Finished.compare.Goals as goal
use Rattle.desk_rings.proofs.finished.Finished.compare.Goals.{in-Put, in-Took}

pub returns-clause-consumers : goal.returns-clause-consumers
returns-clause-consumers g c = elim c.match-self.branch [
  | in-Put w ↦ rw w.consumers-is w.look_after.ensures.looked
  | in-Took w ↦ rw w.consumers-is (consumers-stay c.args.consumers.now.items)
]

pub returns-clause-producers : goal.returns-clause-producers
returns-clause-producers g c = elim c.match-self.branch [
  | in-Put w ↦ rw w.producers-is (producers-stay c.args.producers.now.items)
  | in-Took w ↦ rw w.producers-is w.look_beside.ensures.looked
]

pub returns-clause-borne_out : goal.returns-clause-borne_out
returns-clause-borne_out g c = elim c.match-self.branch [
  | in-Put w ↦ (
      let named = rw w.in-Put.is at c.self.invariant in
      rw (w.consumers-is, w.producers-is, ← c.self.view_is, w.in-Put.is)
      (put-borne-out g.K.DeskName.inlets g.K.DeskName.outlets c.self.inside.at _ w.in-Put.put c.args.consumers.now.items
      w.look_after.new.consumers.items c.args.producers.now.items
      c.requires.consumers named w.look_after.ensures.looked w.look_after.ensures.all)
      )
  | in-Took w ↦ (
      let named = rw w.in-Took.is at c.self.invariant in
      rw (w.consumers-is, w.producers-is, ← c.self.view_is, w.in-Took.is)
      (took-borne-out g.K.DeskName.inlets g.K.DeskName.outlets c.self.inside.at _ w.in-Took.took
      c.args.producers.now.items
      w.look_beside.new.producers.items c.args.consumers.now.items
      c.requires.producers named w.look_beside.ensures.looked w.look_beside.ensures.prefix
      w.look_beside.ensures.released)
      )
]
