use Rattle.std.proofs.Common.{◌-◌, arith}
use Rattle.desk_steps.specs.Agreeing.{DeskState}
use Rattle.desk_steps.proofs.Draining.{drained-agree, drained-goes, drained-holds, drained-less, drained-shrinks}
use Rattle.desk_steps.proofs.Draining.{goes-further, goes-nowhere, same-agree, shrinks-more, shrinks-none}
use Rattle.desk_steps.proofs.Holding.{holds-none, holds-twice}
use Rattle.desk_steps.proofs.closing.drain.Goals as goal

pub loop-init : goal.loop-init
loop-init g c = record {
  agrees = λ inlets outlets h. h;
  goes_on = goes-nowhere c.args.recorded.now;
  holds = holds-none c.args.side.now.producers;
  shrinks = shrinks-none c.args.side.now.consumers;
  knows = λ a at. omega (arith, c.known-left.ensures a at);
}

pub drain_one-requires : goal.drain_one-requires
drain_one-requires g c = record {
  inside = omega (arith, c.requires.inside, c.loop.invariant.shrinks.count);
  some = λ a at. omega (arith, c.loop.invariant.knows a at);
}

pub loop-preserved : goal.loop-preserved
loop-preserved g c =
    let s : DeskState = record { recorded = c.loop.recorded; side = c.loop.side } in
    let t : DeskState = record { recorded = c.drain_one.new.recorded; side = c.drain_one.new.side } in
    let did = c.in_ok-drain_one.ensures.ok in
    record {
      agrees = λ inlets outlets h. drained-agree inlets outlets c.args.place s t did
          (c.loop.invariant.agrees inlets outlets h);
      goes_on = goes-further c.args.recorded.now c.loop.recorded c.drain_one.new.recorded c.loop.invariant.goes_on
          (drained-goes c.args.place s t did);
      holds = holds-twice c.args.side.now.producers c.loop.side.producers c.drain_one.new.side.producers
          c.loop.invariant.holds
          (drained-holds c.args.place s t did);
      shrinks = shrinks-more c.args.side.now.consumers c.loop.side.consumers c.drain_one.new.side.consumers
          c.loop.invariant.shrinks
          (drained-shrinks c.args.place s t did);
      knows = λ b at. omega (
        arith,
        drained-less c.args.place (c.known-left.result - c.loop.counter - 1) s t
            (omega (arith, c.requires.inside, c.loop.invariant.shrinks.count)) did
            (λ a here. omega (arith, c.loop.invariant.knows a here)) b at,
      );
    }

pub returns-in_err-drain_one-clause-agrees : goal.returns-in_err-drain_one-clause-agrees
returns-in_err-drain_one-clause-agrees g c = λ inlets outlets h.
    same-agree inlets outlets c.loop.recorded c.drain_one.new.recorded c.loop.side c.drain_one.new.side
    c.in_err-drain_one.ensures.err.0 c.in_err-drain_one.ensures.err.1 (c.loop.invariant.agrees inlets outlets h)
