use Rattle.std.proofs.Common.{◌≡◌, length}
use Rattle.desk.proofs.replaying.put.Given as goal

-- as many inlets
abbrev pub invariant-loop-place : goal.invariant-loop-place
invariant-loop-place g l = record {
  count : length l.inlets.items ≡ length l.initial.inlets.items;
  end : l.place-end ≡ length l.inlets.items;
}
