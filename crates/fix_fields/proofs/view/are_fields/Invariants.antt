use Rattle.std.proofs.Common.{◌-◌, ◌≤◌, length}
use Rattle.fix_fields.proofs.Splitting.{Remaining, IsRead}
use Rattle.fix_fields.proofs.view.are_fields.Given as goal

abbrev pub invariant-loop-at : goal.invariant-loop-at
invariant-loop-at l = record {
  within : l.at ≤ length l.text;
  read : IsRead l.text l.at;
  remaining : Remaining l.text l.at;
}

abbrev pub decreases-loop-at : goal.decreases-loop-at
decreases-loop-at l = length l.text - l.at
