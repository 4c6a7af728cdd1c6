use Rattle.std.proofs.Common.{◌≡◌, ◌∙◌, ◌<◌, ◌+◌, List, get_or, length, refl, arith}
use Rattle.std.proofs.lemmas.List.{length-set}
use Rattle.gate_law.specs.Events.{Turn}
use Rattle.gate_law.specs.Settings.{port_terms}
use Rattle.gate_events.specs.Seen.{batch_seen}
use Rattle.gate_journal.specs.Kept.{kept_turn}
use Rattle.gate_audit.specs.declared.messages.HandledSoFar.{HandledSoFar}
use Rattle.gate_audit.proofs.Ports.{stepped-at, stepped-first, stepped-last, stepped-set}
use Rattle.gate_audit.proofs.day_audit.take_each.Goals as goal

pub loop-i-init : goal.loop-i-init
loop-i-init c = record {
  many = refl;
  handled = λ s h is. stepped-first s (kept_turn c.args.event.now (batch_seen c.args.batch.now)) h 0
      c.args.ports.now.items is;
}

pub loop-i-preserved : goal.loop-i-preserved
loop-i-preserved c =
    let t : Turn = kept_turn c.args.event.now (batch_seen c.args.batch.now) in
    let now : List HandledSoFar = c.loop-i.ports.items in
    let i = c.loop-i.i in
    let x : HandledSoFar = c.index_mut.result.now in
    let y : HandledSoFar = c.take.new.self in
    let there : x ≡ get_or now i x = c.index_mut.ensures.value in
    let within : i < length now =
    omega (arith, c.loop-i-test.true, c.loop-i.auto.i-end, c.len-i-end.ensures, c.loop-i.invariant.many) in
    record {
      many = length-set now i y ∙ c.loop-i.invariant.many;
      handled = λ s h is. stepped-set s t h i 0 now i y (omega arith)
          (c.in_ok-take.ensures (port_terms s (i + 1)) (i + 1) h
          (stepped-at s t h i 0 now i x (omega arith) within there (c.loop-i.invariant.handled s h is)))
          (c.loop-i.invariant.handled s h is);
    }

pub returns-clause-handled : goal.returns-clause-handled
returns-clause-handled c = λ s h is.
    stepped-last s (kept_turn c.args.event.now (batch_seen c.args.batch.now)) h c.loop-i.i 0 c.loop-i.ports.items
    (omega (arith, c.loop-i-test.false, c.loop-i.auto.i-end, c.len-i-end.ensures, c.loop-i.invariant.many))
    (c.loop-i.invariant.handled s h is)
