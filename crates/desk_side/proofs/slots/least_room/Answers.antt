use Rattle.std.proofs.Common.{◌<◌, ◌+◌, ◌∙◌, ℕ, length, arith}
use Rattle.std.proofs.lemmas.Option.{slice_get_within}
use Rattle.desk_rings.specs.CoreEnds.{KnowsRoom, OutletProducerState}
use Rattle.desk_side.proofs.Moves.{look-set, so-far}
use Rattle.desk_side.proofs.Roomy.{least-room, less-room}
use Rattle.desk_side.proofs.slots.least_room.Goals as goal

pub loop-place-preserved : goal.loop-place-preserved
loop-place-preserved c =
    let i : ℕ = c.loop-place.place in
    let inside : i < length c.loop-place.producers.items =
    omega (arith, c.loop-place-test.true, c.loop-place.invariant.end, c.loop-place.invariant.looked.count) in
    record {
      looked = look-set c.args.producers.now.items c.loop-place.producers.items i c.index_mut.result.now c.room.new.self
          c.loop-place.invariant.looked inside c.index_mut.ensures.value c.room.ensures.looked;
      end = c.loop-place.invariant.end;
      room = so-far (KnowsRoom c.min-least.result) c.loop-place.producers.items i c.room.new.self inside
          (λ d w lt at. less-room c.min-least.result c.loop-place.least w (omega (arith, c.min-least.ensures))
          (c.loop-place.invariant.room d w lt at))
          (less-room c.min-least.result c.room.result c.room.new.self (omega (arith, c.min-least.ensures))
          (least-room c.room.result c.room.new.self c.room.ensures.value));
    }

pub returns-clause-room : goal.returns-clause-room
returns-clause-room c d w at =
    c.loop-place.invariant.room d w (omega (
      arith,
      slice_get_within c.loop-place.producers.items d w at,
      c.loop-place-test.false,
      c.loop-place.invariant.end,
      c.loop-place.invariant.looked.count,
    )) at
