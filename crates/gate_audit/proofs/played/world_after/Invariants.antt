-- The world of the steps so far.
use Rattle.std.proofs.Common.{map, reverse, take}
use Rattle.closed_world.specs.Steps.{step_seen}
use Rattle.closed_world.specs.Worlds.{IsWorld}
use Rattle.gate_audit.proofs.played.world_after.Given as goal

abbrev pub invariant-loop-step : goal.invariant-loop-step
invariant-loop-step l = IsWorld l.settings (reverse (map step_seen (take l.step-index l.steps))) l.world
