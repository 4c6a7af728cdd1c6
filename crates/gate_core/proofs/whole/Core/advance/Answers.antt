use Rattle.std.proofs.Common.{◌+◌, ◌∷◌, refl, sym, ap, ◌∙◌, arith}
use Rattle.std.proofs.lemmas.Result.{IfOk-weaker}
use Rattle.gate_events.specs.Seen.{batch_seen, event_seen}
use Rattle.gate_core.specs.Core.{CoreState, CoreStands, turn_of}
use Rattle.gate_core.specs.State.{PartsStand, parts_settled}
use Rattle.gate_core.proofs.Fields.{CoreFields, fields-of, fields-stand, now-after, after-same}
use Rattle.gate_core.proofs.Standing.{parts-sound, sound-numbers, sound-shaped, stays-settled}
use Rattle.gate_core.proofs.Stepping.{next-step, numbers-still, past-step, shaped-still, still-few}
use Rattle.soup_session.proofs.Closes.{ends_by_close}
use Rattle.gate_law.proofs.Counted.{turns-few as no-more-turns}
use Rattle.gate_law.proofs.Links.{links-current}
use Rattle.gate_law.proofs.Steps.{holds-past, holds-step}
use Rattle.gate_core.proofs.whole.Core.advance.Goals as goal

pub returns-then-self-eq-MOST_EVENTS-clause-after :
    goal.returns-then-self-eq-MOST_EVENTS-clause-after
returns-then-self-eq-MOST_EVENTS-clause-after g c s before is =
    let fields : CoreFields _ _ = record { parts = c.self.inside.parts; events = c.self.inside.events } in
    let settled : CoreStands = record {
      parts = parts_settled c.self.inside.parts;
      events =
          c.self.inside.settled_events;
    } in
    let turn = turn_of c.args.event.now c.empty.result in
    let past = (past-step s before fields (event_seen c.args.event.now)
    (batch_seen c.empty.result) holds-past c.if-self-eq-MOST_EVENTS.true c.empty.ensures
    (fields-of s before fields settled c.args.self.now c.self.view_is is)).0 in
    after-same s (turn ∷ before) (record { now = record { parts = _; events = _ }; settled = settled }) c.args.self.now
    (ap (λ (x : CoreState). x.now) (sym c.self.view_is))
    (now-after s (turn ∷ before) _ (fields-stand s (turn ∷ before) fields past))

pub returns-then-self-eq-MOST_EVENTS-clause-holds : goal.returns-then-self-eq-MOST_EVENTS-clause-holds
returns-then-self-eq-MOST_EVENTS-clause-holds g c s before is =
    let fields : CoreFields _ _ = record { parts = c.self.inside.parts; events = c.self.inside.events } in
    let settled : CoreStands = record {
      parts = parts_settled c.self.inside.parts;
      events =
          c.self.inside.settled_events;
    } in
    (past-step s before fields (event_seen c.args.event.now)
    (batch_seen c.empty.result) holds-past c.if-self-eq-MOST_EVENTS.true c.empty.ensures
    (fields-of s before fields settled c.args.self.now c.self.view_is is)).1

pub event-requires-clause-shaped : goal.event-requires-clause-shaped
event-requires-clause-shaped g c = sound-shaped c.self.inside.events c.self.inside.parts c.self.invariant.0.parts

pub event-requires-clause-next : goal.event-requires-clause-next
event-requires-clause-next g c i line at =
    omega (
      arith,
      (sound-numbers c.self.inside.events c.self.inside.parts c.self.invariant.0.parts).next i line at,
      c.self.invariant.0.few,
    )

pub invariant_of-self : goal.invariant_of-self
invariant_of-self g c =
    let grows = c.event.ensures.grows in
    let shaped = shaped-still 3 1 _ _ grows (sound-shaped c.self.inside.events c.self.inside.parts
    c.self.invariant.0.parts) in
    let numbers = numbers-still c.self.inside.events _ _ grows
    (sound-numbers c.self.inside.events c.self.inside.parts c.self.invariant.0.parts) in (
      record {
        few = still-few c.self.inside.events c.self.invariant.0.few c.if-self-eq-MOST_EVENTS.false;
        parts =
            parts-sound (c.self.inside.events + 1) c.event.new.self shaped numbers;
      },
      record {
        few = c.self.invariant.1.few;
        parts =
            rw (stays-settled 3 1 c.self.inside.parts c.event.new.self grows) c.self.invariant.1.parts;
      },
    )

pub returns-clause-after : goal.returns-clause-after
returns-clause-after g c =
    IfOk-weaker c.event.result _ _
    (λ b step s before is.
    let old : CoreFields _ _ = record { parts = c.self.inside.parts; events = c.self.inside.events } in
    let new : CoreFields _ _ = record { parts = c.event.new.self; events = c.self.inside.events + 1 } in
    let settled : CoreStands = record {
      parts = parts_settled c.self.inside.parts;
      events =
          c.self.inside.settled_events;
    } in
    now-after s (turn_of c.args.event.now b ∷ before) _ (fields-stand s (turn_of c.args.event.now b ∷ before) new
    (next-step s before old new (event_seen c.args.event.now) (batch_seen b)
    (holds-step ends_by_close) (links-current ends_by_close) no-more-turns
    c.if-self-eq-MOST_EVENTS.false (fields-of s before old settled c.args.self.now c.self.view_is is) (step s) refl).0))
    c.event.ensures.step

pub returns-clause-holds : goal.returns-clause-holds
returns-clause-holds g c =
    IfOk-weaker c.event.result _ _
    (λ b step s before is.
    let old : CoreFields _ _ = record { parts = c.self.inside.parts; events = c.self.inside.events } in
    let new : CoreFields _ _ = record { parts = c.event.new.self; events = c.self.inside.events + 1 } in
    let settled : CoreStands = record {
      parts = parts_settled c.self.inside.parts;
      events =
          c.self.inside.settled_events;
    } in
    (next-step s before old new (event_seen c.args.event.now) (batch_seen b)
    (holds-step ends_by_close) (links-current ends_by_close) no-more-turns
    c.if-self-eq-MOST_EVENTS.false (fields-of s before old settled c.args.self.now c.self.view_is is) (step s) refl).1)
    c.event.ensures.step

pub returns-clause-settled : goal.returns-clause-settled
returns-clause-settled g c =
    ap (λ (p : PartsStand). record { parts = p; events = c.self.inside.settled_events })
    (stays-settled 3 1 c.self.inside.parts c.event.new.self c.event.ensures.grows)
    ∙ ap (λ (x : CoreState). x.settled) c.self.view_is
