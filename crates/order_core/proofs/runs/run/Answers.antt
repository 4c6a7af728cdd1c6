use Rattle.std.proofs.Common.{◌≡◌, ◌<◌, ◌^◌, [], length, take, map, sym, subst, ap, ◌∙◌, arith, take_all}
use Rattle.std.proofs.Common.{length-append, length-take-le}
use Rattle.outstanding.specs.order_law.History.{OrderHistory}
use Rattle.order_machine.specs.Runs.{NumbersLeft}
use Rattle.order_machine.proofs.Running.{headline-of}
use Rattle.order_core.specs.State.{OrderCoreState, IsAfterTurns, core_clients, core_numbers}
use Rattle.order_core.specs.Runs.{IsFor, run_history, is_known_client}
use Rattle.to_market.specs.TermsSeen.{terms_seen}
use Rattle.order_core.proofs.Histories.{each-more, history-more, length-onto, passes-at}
use Rattle.order_core.proofs.Standing.{after-by_parts}
use Rattle.order_core.proofs.Turns.{parts-of}
use Rattle.order_core.proofs.runs.run.Goals as goal

pub loop-event-init : goal.loop-event-init
loop-event-init c = record {
  after = c.in_ok-core.ensures.after;
  whom = rw c.new-outcomes.ensures.items tt;
  same = ap length c.new-outcomes.ensures.items;
  clients = c.in_ok-core.ensures.clients;
  issued = omega (arith, c.in_ok-core.ensures.issued);
}

pub step-requires-clause-client : goal.step-requires-clause-client
step-requires-clause-client c =
    rw (ap core_clients c.settle.ensures ∙ c.loop-event.invariant.clients)
    (passes-at (is_known_client (length c.args.terms.now)) c.args.events.now c.loop-event.event-index
    c.event-item.result c.requires.clients c.loop-event-test.true c.event-item.is)

pub step-requires-clause-room : goal.step-requires-clause-room
step-requires-clause-room c =
    let still : core_numbers c.settle.new.self ≡ core_numbers c.loop-event.core = ap core_numbers c.settle.ensures in
    record {
      orders = omega (arith, c.loop-event.invariant.issued, still, c.requires.numbers, c.loop-event-test.true);
      reports = omega (arith, c.loop-event.invariant.issued, still, c.requires.numbers, c.loop-event-test.true);
      tokens = omega (arith, c.loop-event.invariant.issued, still, c.requires.numbers, c.loop-event-test.true);
    }

pub loop-event-preserved : goal.loop-event-preserved
loop-event-preserved c = record {
  after =
      let before = run_history (take c.loop-event.event-index c.args.events.now) c.loop-event.outcomes.items in
      let short : NumbersLeft before = omega (
        arith,
        length-onto
            (take c.loop-event.event-index c.args.events.now) c.loop-event.outcomes.items [],
        length-take-le
            c.loop-event.event-index c.args.events.now (omega arith),
        c.requires.numbers,
      ) in
      rw c.in_ok-push.ensures.items (subst (λ (h : OrderHistory). IsAfterTurns
      (map terms_seen c.args.terms.now) h c.step.new.core)
      (sym (history-more c.args.events.now c.loop-event.outcomes.items c.loop-event.event-index c.event-item.result
      c.in_ok-outcome.outcome c.loop-event-test.true c.event-item.is c.loop-event.invariant.same))
      (c.in_ok-outcome.ensures.after (map terms_seen c.args.terms.now) before short
      (after-by_parts (map terms_seen c.args.terms.now) before c.loop-event.core c.settle.new.self
      (ap (λ (o : OrderCoreState). o.table) (sym c.settle.ensures))
      (ap (λ (o : OrderCoreState). o.kept) (sym c.settle.ensures)) c.loop-event.invariant.after)));
  whom = rw c.in_ok-push.ensures.items (each-more IsFor c.args.events.now c.loop-event.outcomes.items
      c.loop-event.event-index c.event-item.result c.in_ok-outcome.outcome c.loop-event-test.true c.event-item.is
      c.loop-event.invariant.whom c.in_ok-outcome.ensures.whom);
  same = rw (c.in_ok-push.ensures.items, length-append) (omega (arith, c.loop-event.invariant.same));
  clients = c.step.ensures.keeps.clients ∙ ap core_clients c.settle.ensures ∙ c.loop-event.invariant.clients;
  issued =
      let still : core_numbers c.settle.new.self ≡ core_numbers c.loop-event.core = ap core_numbers c.settle.ensures in
      omega (arith, c.step.ensures.keeps.issued, still, c.loop-event.invariant.issued);
}

pub returns-clause-exact : goal.returns-clause-exact
returns-clause-exact c =
    let after = rw (take_all c.loop-event.event-index c.args.events.now (omega arith)) at c.loop-event.invariant.after
    in (
      c.loop-event.core.table,
      (parts-of (map terms_seen c.args.terms.now)
          (run_history c.args.events.now c.loop-event.outcomes.items) c.loop-event.core after).0,
    )

pub returns-clause-headline : goal.returns-clause-headline
returns-clause-headline c =
    let after = rw (take_all c.loop-event.event-index c.args.events.now (omega arith)) at c.loop-event.invariant.after
    in
    let leaves = (parts-of (map terms_seen c.args.terms.now)
    (run_history c.args.events.now c.loop-event.outcomes.items) c.loop-event.core after).0 in
    headline-of (map terms_seen c.args.terms.now)
    (run_history c.args.events.now c.loop-event.outcomes.items) c.loop-event.core.table
    (omega (arith, length-onto c.args.events.now c.loop-event.outcomes.items [], c.requires.numbers)) leaves

pub returns-clause-whom : goal.returns-clause-whom
returns-clause-whom c =
    rw (take_all c.loop-event.event-index c.args.events.now (omega arith)) at c.loop-event.invariant.whom
