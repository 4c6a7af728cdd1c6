-- An event for each frame that was taken.
use Rattle.std.proofs.Common.{◌≡◌, map}
use Rattle.gate_journal.specs.gate_law.Events as law
use Rattle.gate_events.specs.Seen.{event_seen}
use Rattle.script_steps.proofs.events.frame_events.Given as goal

abbrev pub invariant-loop-fields : goal.invariant-loop-fields
invariant-loop-fields l = map event_seen l.events.items ≡ map (law.ClientMessage l.client l.link l.at) l.yielded
