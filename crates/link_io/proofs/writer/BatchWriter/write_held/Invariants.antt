use Rattle.std.proofs.Common.{◌≡◌, [], length}
use Rattle.link_io.specs.Writing.{HasSent, unwritten}
use Rattle.link_io.proofs.writer.BatchWriter.write_held.Given as goal

abbrev pub invariant-loop-self : goal.invariant-loop-self
invariant-loop-self g l = record {
  sent : HasSent (unwritten l.fn.self) (unwritten l.self) (g.W.Write.contents l.fn.stream) (g.W.Write.contents l.stream);
  empty : l.self.bytes ≡ [];
  left : l.self ≡ record l.fn.self { bytes = l.self.bytes; held = l.self.held };
  none_put : g.G.Gate.was_put l.gate ≡ g.G.Gate.was_put l.fn.gate;
  none_taken : g.G.Gate.was_taken l.gate ≡ g.G.Gate.was_taken l.fn.gate;
}

abbrev pub decreases-loop-self : goal.decreases-loop-self
decreases-loop-self g l = length l.self.held
