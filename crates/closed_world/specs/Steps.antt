-- Steps as the world has them.
use Rattle.world_law.specs.World as world
use Rattle.gate_events.specs.Seen.{event_seen}
use Rattle.closed_world.specs.declared.step.WorldStep.{WorldStep}
use Rattle.closed_world.specs.declared.step.WorldStep.TheVariants as steps

abbrev pub step_seen : WorldStep → world.WorldStep
step_seen (steps.Client event) = world.Client (event_seen event)
step_seen (steps.Connect port) = world.Connect port
step_seen (steps.ToMarket port choice) = world.ToMarket port choice
step_seen (steps.ToCore port) = world.ToCore port
step_seen (steps.Act port choice) = world.Act port choice
step_seen (steps.Lose port) = world.Lose port
