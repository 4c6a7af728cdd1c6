use Rattle.std.proofs.Common.{rules, [], ◌∷◌, ◌++◌, ap, ◌∙◌, append_assoc}
use Rattle.script_steps.proofs.Going.{same-on, both-on}
use Rattle.script_steps.proofs.runner.step_events.Goals as goal

pub loop-event-init : goal.loop-event-init
loop-event-init g c = record { on = same-on _ _; events = search rules }

pub loop-event-preserved : goal.loop-event-preserved
loop-event-preserved g c = record {
  on = both-on _ _ _ _ _ _ c.loop-event.invariant.on c.in_ok-step_event.ensures.on;
  events =
      c.in_ok-step_event.ensures.event
      ∙ ap (λ events. events ++ c.in-Some.event ∷ []) c.loop-event.invariant.events
      ∙ append_assoc c.args.kept.now.events c.loop-event.yielded (c.in-Some.event ∷ []);
}
