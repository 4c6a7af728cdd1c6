use Rattle.std.proofs.Common.{take}
use Rattle.desk_rings.specs.Made.{MadeEvents}
use Rattle.desk_rings.proofs.making.event_rings.Given as goal

-- those of the sources so far
abbrev pub invariant-loop-source : goal.invariant-loop-source
invariant-loop-source l = MadeEvents (take l.source-index l.sources) l.rings.items l.consumers.items
