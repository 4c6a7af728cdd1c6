use Rattle.std.proofs.Common.{◌≡◌, map, take}
use Rattle.gate_events.specs.Seen.{link_out_seen}
use Rattle.gate_events.proofs.output.Output.copied.Given as goal

-- the outputs passed so far
abbrev pub invariant-loop-out : goal.invariant-loop-out
invariant-loop-out l = map link_out_seen l.output.items ≡ map link_out_seen (take l.out-index l.outs)
