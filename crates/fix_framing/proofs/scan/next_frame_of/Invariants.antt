use Rattle.std.proofs.Common.{◌-◌, [], length}
use Rattle.fix_framing.specs.Stream.{IsOn}
use Rattle.fix_framing.proofs.scan.next_frame_of.Given as goal

abbrev pub invariant-loop-at : goal.invariant-loop-at
invariant-loop-at l = IsOn l.text [] l.at l.at

abbrev pub decreases-loop-at : goal.decreases-loop-at
decreases-loop-at l = length l.text - l.at
