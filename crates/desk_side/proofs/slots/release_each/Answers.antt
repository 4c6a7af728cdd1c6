use Rattle.std.proofs.Common.{◌≡◌, ◌<◌, ℕ, length, arith}
use Rattle.std.proofs.lemmas.Option.{slice_get_within}
use Rattle.desk_rings.specs.CoreEnds.{OutletProducerState}
use Rattle.desk_side.proofs.Moves.{release-set, so-far}
use Rattle.desk_side.proofs.slots.release_each.Goals as goal

pub loop-place-preserved : goal.loop-place-preserved
loop-place-preserved c =
    let i : ℕ = c.loop-place.place in
    let inside : i < length c.loop-place.producers.items =
    omega (arith, c.loop-place-test.true, c.loop-place.invariant.end, c.loop-place.invariant.same.count) in
    record {
      same = release-set c.args.producers.now.items c.loop-place.producers.items i c.index_mut.result.now
          c.release.new.self
          c.loop-place.invariant.same inside c.index_mut.ensures.value c.release.ensures.same;
      end = c.loop-place.invariant.end;
      all = so-far (λ (w : OutletProducerState). w.released ≡ w.sent) c.loop-place.producers.items i c.release.new.self
          inside
          c.loop-place.invariant.all c.release.ensures.all;
    }

pub returns-clause-all : goal.returns-clause-all
returns-clause-all c d w at =
    c.loop-place.invariant.all d w (omega (
      arith,
      slice_get_within c.loop-place.producers.items d w at,
      c.loop-place-test.false,
      c.loop-place.invariant.end,
      c.loop-place.invariant.same.count,
    )) at
