use Rattle.std.proofs.Common.{◌≤◌, ◌<◌, length}
use Rattle.link_io.specs.Writing.{Joins}
use Rattle.link_io.proofs.writer.BatchWriter.join.Given as goal

abbrev pub invariant-loop-alloc : goal.invariant-loop-alloc
invariant-loop-alloc l = record {
  joins : Joins l.initial.self l.self;
  some : 0 < length l.self.held;
  fewer : length l.self.held ≤ length l.initial.self.held;
}

abbrev pub decreases-loop-alloc : goal.decreases-loop-alloc
decreases-loop-alloc l = length l.self.held
