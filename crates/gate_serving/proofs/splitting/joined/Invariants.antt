use Rattle.std.proofs.Common.{◌≡◌, ◌≤◌, true, length, vec_len, vec_capacity}
use Rattle.std.specs.List.{All, AllZip}
use Rattle.gate_serving.specs.Halves.{IsJoined}
use Rattle.gate_serving.proofs.splitting.joined.Given as goal

abbrev pub invariant-loop-reads : goal.invariant-loop-reads
invariant-loop-reads g l = record {
  can_next : (goal.iterator-loop-reads g).can_next l.reads-iterator;
  is_finite : (goal.iterator-loop-reads g).is_finite l.reads-iterator;
  lines : AllZip IsJoined l.yielded l.lines.items;
  over : l.all_over ≡ true → All (λ half. half.0.all_over ≡ true) l.yielded;
  count : vec_len l.lines ≡ length l.yielded;
  room : vec_len l.fn.halves ≤ vec_capacity l.lines;
}
