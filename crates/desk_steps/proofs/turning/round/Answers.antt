use Rattle.std.proofs.Common.{◌∙◌, ◌∷◌, [], refl, sym, arith}
use Rattle.desk_steps.specs.Agreeing.{DeskState}
use Rattle.desk_steps.proofs.Turns.{went-more}
use Rattle.desk_steps.proofs.turning.round.Goals as goal

pub loop-place-init : goal.loop-place-init
loop-place-init g c = record {
  went = ([], refl, refl, refl);
  size = sym c.inlets-place-end.ensures;
  end = c.inlets-place-end.ensures;
  few = omega arith;
}

pub count-requires : goal.count-requires
count-requires g c = record {
  few = omega
      (arith, c.loop-place.invariant.few, c.loop-place.invariant.end, c.requires.few);
}

pub loop-place-preserved : goal.loop-place-preserved
loop-place-preserved g c =
    let s : DeskState = record { recorded = c.args.recorded.now; side = c.args.side.now } in
    let m : DeskState = record { recorded = c.loop-place.recorded; side = c.loop-place.side } in
    let t : DeskState = record { recorded = c.turn_at.new.recorded; side = c.turn_at.new.side } in
    let w = c.loop-place.invariant.went in
    record {
      went = (
        c.turn_at.result ∷ w.0,
        went-more s m t w.0 c.loop-place.place c.turn_at.result w.1 w.2
            c.turn_at.ensures.does,
        omega (arith, w.2),
        c.count.ensures.counts w.0 w.3,
      );
      size = c.turn_at.ensures.count ∙ c.loop-place.invariant.size;
      end = c.loop-place.invariant.end;
      few = omega (arith, c.count.ensures.few, c.loop-place.invariant.few);
    }
