use Rattle.std.proofs.Common.{rules}
use Rattle.link_io.proofs.Refilling.{joined_refills, refills_none, refills_next}
use Rattle.link_io.proofs.writer.BatchWriter.refill.Goals as goal

pub returns-in_err-join-clause-refills : goal.returns-in_err-join-clause-refills
returns-in_err-join-clause-refills g c =
    let t = g.G.Gate.was_taken c.args.gate.now in
    joined_refills c.args.self.now c.join.new.self c.join.new.self t t c.in_err-join.ensures.joins
    (refills_none c.join.new.self t)

pub loop-init : goal.loop-init
loop-init g c =
    let t = g.G.Gate.was_taken c.args.gate.now in
    record {
      refills = joined_refills c.args.self.now c.join.new.self c.join.new.self t t c.in_ok-join.ensures.joins
          (refills_none c.join.new.self t);
      until = search rules;
      none_put = search rules;
    }

pub returns-in_err-join-2-clause-refills : goal.returns-in_err-join-2-clause-refills
returns-in_err-join-2-clause-refills g c =
    refills_next c.args.self.now c.loop.self c.take_list.new.self c.join-in-loop.new.self
    (g.G.Gate.was_taken c.args.gate.now) (g.G.Gate.was_taken c.loop.gate)
    (g.G.Gate.was_taken c.take_list.new.gate) c.loop.invariant.refills (c.has_enough.ensures.all (search rules))
    (search rules) c.if-not-take_list.ensures.takes c.in_err-join-2.ensures.joins

pub loop-preserved : goal.loop-preserved
loop-preserved g c = record {
  refills = refills_next c.args.self.now c.loop.self c.take_list.new.self c.join-in-loop.new.self
      (g.G.Gate.was_taken c.args.gate.now) (g.G.Gate.was_taken c.loop.gate)
      (g.G.Gate.was_taken c.take_list.new.gate) c.loop.invariant.refills (c.has_enough.ensures.all (search rules))
      (search rules) c.if-not-take_list.ensures.takes c.in_ok-join-2.ensures.joins;
  until = search rules;
  none_put = search rules;
}
