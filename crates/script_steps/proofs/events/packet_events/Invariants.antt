-- An event for each packet that was taken.
use Rattle.std.proofs.Common.{◌≡◌, map}
use Rattle.gate_journal.specs.gate_law.Events as law
use Rattle.gate_events.specs.Seen.{event_seen}
use Rattle.script_steps.proofs.events.packet_events.Given as goal

abbrev pub invariant-loop-packet : goal.invariant-loop-packet
invariant-loop-packet l = map event_seen l.events.items ≡ map (law.PortPacket l.port l.link l.at) l.yielded
