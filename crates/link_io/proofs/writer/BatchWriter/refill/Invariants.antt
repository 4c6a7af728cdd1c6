use Rattle.std.proofs.Common.{◌≡◌}
use Rattle.link_io.specs.Writing.{IsAllOrEnough, Refills}
use Rattle.link_io.proofs.writer.BatchWriter.refill.Given as goal

abbrev pub invariant-loop : goal.invariant-loop
invariant-loop g l = record {
  refills : Refills l.fn.self l.self (g.G.Gate.was_taken l.fn.gate) (g.G.Gate.was_taken l.gate);
  until : IsAllOrEnough l.self;
  none_put : g.G.Gate.was_put l.gate ≡ g.G.Gate.was_put l.fn.gate;
}
