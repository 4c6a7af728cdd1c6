use Rattle.std.proofs.Common.{◌≤◌, ◌-◌, length}
use Rattle.fix_fields.specs.Front.{soh_behind}
use Rattle.fix_fields.proofs.soh.next_soh_by_one.Given as goal

abbrev pub invariant-loop-end : goal.invariant-loop-end
invariant-loop-end l = record {
  ordered : l.start ≤ l.end;
  most : l.end ≤ soh_behind l.text l.start;
}

abbrev pub decreases-loop-end : goal.decreases-loop-end
decreases-loop-end l = length l.text - l.end
