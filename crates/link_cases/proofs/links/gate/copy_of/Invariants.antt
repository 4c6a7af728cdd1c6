use Rattle.std.proofs.Common.{◌≡◌, List, map, take}
use Rattle.gate_events.specs.Seen.{link_out_seen}
use Rattle.link_cases.proofs.links.gate.copy_of.Given as goal

abbrev pub invariant-loop-out : goal.invariant-loop-out
invariant-loop-out l = map link_out_seen l.copy.items ≡ map link_out_seen (take l.out-index l.list)
