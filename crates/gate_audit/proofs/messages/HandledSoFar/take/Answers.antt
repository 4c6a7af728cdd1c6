use Rattle.std.proofs.Common.{◌∙◌, ◌<◌, ◌+◌, ◌^◌, ℕ, ap, sym, subst, length, arith}
use Rattle.gate_law.specs.Events.{Turn}
use Rattle.gate_events.specs.Seen.{batch_seen, event_seen}
use Rattle.gate_journal.specs.Kept.{kept_turn}
use Rattle.gate_audit.specs.Again.{Again, called_again, called_by_event, unless_lost}
use Rattle.gate_audit.specs.Called.{IsAgain, stepped_of}
use Rattle.gate_audit.proofs.Calling.{again-more, stepped-few, stepped-next}
use Rattle.gate_audit.proofs.messages.HandledSoFar.take.Goals as goal

pub returns-in_ok-step : goal.returns-in_ok-step
returns-in_ok-step c = λ terms p h is.
    let e = c.args.event.now in
    let b = c.args.batch.now in
    let t : Turn = kept_turn e (batch_seen b) in
    let near : stepped_of h < 2 ^ 48 = omega (arith, c.if-self-lt-MOST_EVENTS.true, is.stepped) in
    let few : length h < 2 ^ 48 = stepped-few h near in
    record {
      own = is.own;
      again = subst (λ (r : Again). IsAgain terms r c.step.new.self) (sym (again-more terms p e b h few))
          (subst (λ (q : ℕ). IsAgain terms (unless_lost q (batch_seen b)
          (called_by_event terms q (event_seen e) (batch_seen b) (called_again terms p h))) c.step.new.self) is.own
          (c.in_ok-step.ensures.again terms (called_again terms p h) is.again));
      stepped = ap (λ (n : ℕ). n + 1) is.stepped ∙ stepped-next t h few;
    }
