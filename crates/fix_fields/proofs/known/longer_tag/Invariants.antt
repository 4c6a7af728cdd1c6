use Rattle.std.proofs.Common.{◌-◌, length}
use Rattle.fix_fields.specs.Front.{IsTagBegun}
use Rattle.fix_fields.proofs.known.longer_tag.Given as goal

abbrev pub invariant-loop-place : goal.invariant-loop-place
invariant-loop-place l = IsTagBegun l.text l.at l.place

abbrev pub decreases-loop-place : goal.decreases-loop-place
decreases-loop-place l = length l.text - l.place.end
