-- The core went on by the events that were taken, and they are kept.
use Rattle.std.proofs.Common.{◌≡◌, ◌++◌}
use Rattle.script_steps.specs.Steps.{ScriptGoesOn}
use Rattle.script_steps.proofs.runner.step_events.Given as goal

abbrev pub invariant-loop-event : goal.invariant-loop-event
invariant-loop-event g l = record {
  on : ScriptGoesOn l.initial.core l.initial.kept l.core l.kept;
  events : l.kept.events ≡ l.initial.kept.events ++ l.yielded;
}
