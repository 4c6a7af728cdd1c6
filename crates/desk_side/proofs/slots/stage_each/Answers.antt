use Rattle.std.proofs.Common.{◌<◌, ℕ, length, arith}
use Rattle.std.proofs.lemmas.Option.{slice_get_within}
use Rattle.desk_rings.specs.CoreEnds.{IsStaging}
use Rattle.desk_side.proofs.Moves.{so-far, stage-set}
use Rattle.desk_side.proofs.slots.stage_each.Goals as goal

pub returns-in_err-stage-clause-same : goal.returns-in_err-stage-clause-same
returns-in_err-stage-clause-same c =
    let i : ℕ = c.loop-place.place in
    let inside : i < length c.loop-place.producers.items =
    omega (arith, c.loop-place-test.true, c.loop-place.invariant.end, c.loop-place.invariant.same.count) in
    stage-set c.args.producers.now.items c.loop-place.producers.items i c.index_mut.result.now c.stage.new.self
    c.loop-place.invariant.same inside c.index_mut.ensures.value c.stage.ensures.same

pub loop-place-preserved : goal.loop-place-preserved
loop-place-preserved c =
    let i : ℕ = c.loop-place.place in
    let inside : i < length c.loop-place.producers.items =
    omega (arith, c.loop-place-test.true, c.loop-place.invariant.end, c.loop-place.invariant.same.count) in
    record {
      same = stage-set c.args.producers.now.items c.loop-place.producers.items i c.index_mut.result.now c.stage.new.self
          c.loop-place.invariant.same inside c.index_mut.ensures.value c.stage.ensures.same;
      end = c.loop-place.invariant.end;
      stage = so-far IsStaging c.loop-place.producers.items i c.stage.new.self inside c.loop-place.invariant.stage
          c.in_ok-stage.ensures.stages;
    }

pub returns-clause-stages : goal.returns-clause-stages
returns-clause-stages c d w at =
    c.loop-place.invariant.stage d w (omega (
      arith,
      slice_get_within c.loop-place.producers.items d w at,
      c.loop-place-test.false,
      c.loop-place.invariant.end,
      c.loop-place.invariant.same.count,
    )) at
