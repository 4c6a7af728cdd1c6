use Rattle.std.proofs.Common.{◌≡◌, ◌≤◌, length, vec_len, vec_capacity}
use Rattle.std.specs.List.{AllZip}
use Rattle.gate_serving.specs.Halves.{IsSplit}
use Rattle.gate_serving.proofs.splitting.split.Given as goal

abbrev pub invariant-loop-line : goal.invariant-loop-line
invariant-loop-line g l = record {
  can_next : (goal.iterator-loop-line g).can_next l.line-iterator;
  is_finite : (goal.iterator-loop-line g).is_finite l.line-iterator;
  lines : AllZip IsSplit l.yielded l.halves.items;
  count : vec_len l.halves ≡ length l.yielded;
  room : vec_len l.fn.lines ≤ vec_capacity l.halves;
}
