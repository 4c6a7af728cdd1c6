use Rattle.std.proofs.Common.{length, take, sym, subst, ap, arith, take_all, length-append}
use Rattle.gate_law.specs.Events.{History}
use Rattle.gate_core.specs.Core.{IsAfter, history}
use Rattle.gate_core.proofs.Histories.{history-more}
use Rattle.gate_core.proofs.Fields.{after-now}
use Rattle.gate_core.proofs.runs.run_all.Goals as goal

pub loop-event-init : goal.loop-event-init
loop-event-init c = record {
  after = c.in_ok-core.ensures.after;
  same = ap length c.new-batches.ensures.items;
}

pub loop-event-preserved : goal.loop-event-preserved
loop-event-preserved c = record {
  after =
      let before = history (take c.loop-event.event-index c.args.events.now) c.loop-event.batches.items in
      rw c.in_ok-push.ensures.items (subst (λ (h : History). IsAfter c.args.settings.now h c.step.new.self)
      (sym (history-more c.args.events.now c.loop-event.batches.items c.loop-event.event-index c.event-item.result
      c.in_ok-batch.batch c.loop-event-test.true c.event-item.is c.loop-event.invariant.same))
      (c.in_ok-batch.ensures.after c.args.settings.now before c.loop-event.invariant.after));
  same = rw (c.in_ok-push.ensures.items, length-append) (omega (arith, c.loop-event.invariant.same));
}

pub returns-clause-holds : goal.returns-clause-holds
returns-clause-holds c =
    let after = rw (take_all c.loop-event.event-index c.args.events.now (omega arith)) at c.loop-event.invariant.after
    in
    (after-now c.args.settings.now (history c.args.events.now c.loop-event.batches.items) c.loop-event.core after).holds
