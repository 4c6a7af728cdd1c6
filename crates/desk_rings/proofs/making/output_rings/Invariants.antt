use Rattle.std.proofs.Common.{take}
use Rattle.desk_rings.specs.Made.{MadeLists}
use Rattle.desk_rings.proofs.making.output_rings.Given as goal

-- those of the recipients so far
abbrev pub invariant-loop-to : goal.invariant-loop-to
invariant-loop-to l = MadeLists (take l.to-index l.recipients) l.producers.items l.rings.items
