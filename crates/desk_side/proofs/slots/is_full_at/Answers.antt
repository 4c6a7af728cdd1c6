use Rattle.std.proofs.Common.{◌<◌, length, subst}
use Rattle.desk_rings.specs.CoreEnds.{OutletProducerState, ProducerLooked}
use Rattle.desk_rings.proofs.Naming.{producer-stays}
use Rattle.desk_rings.proofs.Places.{each-set, get-set-same, length-set}
use Rattle.desk_side.proofs.Telling.{has-room}
use Rattle.desk_side.proofs.slots.is_full_at.Goals as goal

pub returns-clause-looked : goal.returns-clause-looked
returns-clause-looked c =
    let inside : c.in-Some.place < length c.args.producers.now.items = rw c.in-Some.is at c.requires.inside in
    let looked = subst (λ (z : OutletProducerState). ProducerLooked z c.is_full.new.self) c.index_mut.ensures.value
    c.is_full.ensures.looked in
    record {
      count = length-set c.args.producers.now.items c.in-Some.place c.is_full.new.self;
      each = each-set ProducerLooked c.args.producers.now.items c.in-Some.place c.index_mut.result.now
          c.is_full.new.self inside
          producer-stays looked;
    }

pub returns-clause-full : goal.returns-clause-full
returns-clause-full c so =
    let inside : c.in-Some.place < length c.args.producers.now.items = rw c.in-Some.is at c.requires.inside in
    let full = c.is_full.ensures.value.0 so in (
      c.in-Some.place,
      c.is_full.new.self,
      c.in-Some.is,
      get-set-same c.args.producers.now.items c.in-Some.place
          c.is_full.new.self inside,
      full.0,
      full.1,
    )

pub returns-clause-room : goal.returns-clause-room
returns-clause-room c isnt d w is at =
    let inside : c.in-Some.place < length c.args.producers.now.items = rw c.in-Some.is at c.requires.inside in
    has-room c.args.reserved c.args.producers.now.items c.in-Some.place d c.is_full.new.self w c.is_full.result inside
    (cc (is, c.in-Some.is)) at c.is_full.ensures.value.1 isnt
