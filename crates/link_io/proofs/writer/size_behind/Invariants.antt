-- What was counted, and what the items behind have, is what all have.
use Rattle.std.proofs.Common.{◌≡◌, ◌+◌, length}
use Rattle.std.specs.Prelude.{map}
use Rattle.gate_events.specs.Seen.{link_out_seen}
use Rattle.link_io.specs.Writing.{link_bytes}
use Rattle.link_io.proofs.writer.size_behind.Given as goal

abbrev pub invariant-loop-out : goal.invariant-loop-out
invariant-loop-out l = l.size + length (link_bytes l.link (map link_out_seen l.rest))
    ≡ l.front + length (link_bytes l.link (map link_out_seen l.outs))

abbrev pub decreases-loop-out : goal.decreases-loop-out
decreases-loop-out l = length l.rest
