use Rattle.std.proofs.Common.{◌≡◌, ◌<◌, ◌∙◌, Some, length, slice_get, sym, ap, arith}
use Rattle.std.proofs.lemmas.Option.{slice_get-get_or, slice_get_within}
use Rattle.desk_side.specs.desk_rings.Rings.{Done}
use Rattle.desk_steps.proofs.Draining.{goes-further, goes-nowhere, one-drained, shrinks-more, shrinks-none}
use Rattle.desk_steps.proofs.Draining.{borne-out-inside}
use Rattle.desk_steps.proofs.Holding.{holds-none, holds-twice}
use Rattle.desk_steps.proofs.closing.drain_all.Goals as goal

pub loop-i-init : goal.loop-i-init
loop-i-init g c = record {
  agrees = λ inlets outlets h. h;
  goes_on = goes-nowhere c.args.recorded.now;
  holds = holds-none c.args.side.now.producers;
  shrinks = shrinks-none c.args.side.now.consumers;
  none = λ i f k lt at is. absurd (omega arith);
}

pub drain_end-requires : goal.drain_end-requires
drain_end-requires g c =
    let one : Done = c.index.result.now in
    let inside : c.loop-i.i < length c.args.finished.now.items = omega arith in
    let here : slice_get c.args.finished.now.items c.loop-i.i ≡ Some one =
    slice_get-get_or c.args.finished.now.items c.loop-i.i one inside ∙ ap Some (sym c.index.ensures) in
    record {
      inside = λ k is. omega (
        arith,
        borne-out-inside one c.args.side.now.consumers c.args.side.now.producers k
            (c.requires.borne_out c.loop-i.i one here) is,
        c.loop-i.invariant.shrinks.count,
      );
    }

pub loop-i-preserved : goal.loop-i-preserved
loop-i-preserved g c =
    let one : Done = c.index.result.now in
    let inside : c.loop-i.i < length c.args.finished.now.items = omega arith in
    let here : slice_get c.args.finished.now.items c.loop-i.i ≡ Some one =
    slice_get-get_or c.args.finished.now.items c.loop-i.i one inside ∙ ap Some (sym c.index.ensures) in
    record {
      agrees = λ inlets outlets h. c.drain_end.ensures.agrees inlets outlets
          (c.loop-i.invariant.agrees inlets outlets h);
      goes_on = goes-further c.args.recorded.now c.loop-i.recorded c.drain_end.new.recorded c.loop-i.invariant.goes_on
          c.drain_end.ensures.goes_on;
      holds = holds-twice c.args.side.now.producers c.loop-i.side.producers c.drain_end.new.side.producers
          c.loop-i.invariant.holds
          c.drain_end.ensures.holds;
      shrinks = shrinks-more c.args.side.now.consumers c.loop-i.side.consumers c.drain_end.new.side.consumers
          c.loop-i.invariant.shrinks c.drain_end.ensures.shrinks;
      none = one-drained c.loop-i.i c.args.finished.now.items one c.loop-i.side.consumers c.drain_end.new.side.consumers
          here
          c.drain_end.ensures.shrinks c.in_ok-drain_end.ensures.none c.loop-i.invariant.none;
    }

pub returns-in_err-drain_end-clause-agrees : goal.returns-in_err-drain_end-clause-agrees
returns-in_err-drain_end-clause-agrees g c =
    λ inlets outlets h. c.drain_end.ensures.agrees inlets outlets (c.loop-i.invariant.agrees inlets outlets h)

pub returns-clause-none : goal.returns-clause-none
returns-clause-none g c = λ i f k at is. c.loop-i.invariant.none i f k
    (omega (arith, slice_get_within c.args.finished.now.items i f at)) at is

pub returns-in_err-drain_end-clause-goes_on : goal.returns-in_err-drain_end-clause-goes_on
returns-in_err-drain_end-clause-goes_on g c =
    goes-further c.args.recorded.now c.loop-i.recorded c.drain_end.new.recorded c.loop-i.invariant.goes_on
    c.drain_end.ensures.goes_on

pub returns-in_err-drain_end-clause-holds : goal.returns-in_err-drain_end-clause-holds
returns-in_err-drain_end-clause-holds g c =
    holds-twice c.args.side.now.producers c.loop-i.side.producers c.drain_end.new.side.producers
    c.loop-i.invariant.holds
    c.drain_end.ensures.holds
