use Rattle.std.proofs.Common.{◌≡◌, ◌<◌, ◌-◌, length}
use Rattle.fix_fields.specs.Front.{soh_behind}
use Rattle.fix_fields.proofs.soh.next_soh_further.Given as goal

abbrev pub invariant-loop-end : goal.invariant-loop-end
invariant-loop-end l = record {
  ahead : soh_behind l.text l.start ≡ soh_behind l.text l.end;
  there : soh_behind l.text l.end < length l.text;
}

abbrev pub decreases-loop-end : goal.decreases-loop-end
decreases-loop-end l = length l.text - l.end
