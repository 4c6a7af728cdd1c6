use Rattle.std.proofs.Common.{◌≡◌, ◌≤◌, ◌<◌, map, take}
use Rattle.gate_events.specs.Seen.{link_out_seen}
use Rattle.desk_rings.specs.Sizes.{list_size}
use Rattle.desk_rings.proofs.size.size_of.Given as goal

-- what those so far have, or as much as is counted
abbrev pub invariant-loop-out : goal.invariant-loop-out
invariant-loop-out l = (l.size ≤ 2_097_152) × (l.size ≤ list_size (map link_out_seen (take l.out-index l.out-items)))
    × (l.size < 2_097_152 → l.size ≡ list_size (map link_out_seen (take l.out-index l.out-items)))
