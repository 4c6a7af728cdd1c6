use Rattle.std.proofs.Common.{◌≡◌, map, take, false}
use Rattle.gate_events.specs.Seen.{link_out_seen}
use Rattle.gate_events.specs.Closing.{is_link_closed}
use Rattle.gate_events.proofs.closing.closes_link.Given as goal

-- none so far
abbrev pub invariant-loop-out : goal.invariant-loop-out
invariant-loop-out l = is_link_closed l.link (map link_out_seen (take l.out-index l.outs)) ≡ false
