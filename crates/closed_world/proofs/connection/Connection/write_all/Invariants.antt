-- What was written so far is on its way.
use Rattle.std.proofs.Common.{◌≡◌, map, take}
use Rattle.gate_events.specs.Seen.{link_out_seen}
use Rattle.closed_world.specs.Lines.{ArePackets, way_seen, with_written}
use Rattle.closed_world.proofs.connection.Connection.write_all.Given as goal

abbrev pub invariant-loop-out : goal.invariant-loop-out
invariant-loop-out l = ArePackets (map link_out_seen (take l.out-index l.outs))
    → way_seen l.self ≡ with_written (map link_out_seen (take l.out-index l.outs)) (way_seen l.fn.self)
