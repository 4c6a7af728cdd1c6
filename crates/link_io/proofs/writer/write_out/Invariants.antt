use Rattle.std.proofs.Common.{◌≡◌, length}
use Rattle.link_io.specs.Writing.{HasSent}
use Rattle.link_io.proofs.writer.write_out.Given as goal

abbrev pub invariant-loop-rest : goal.invariant-loop-rest
invariant-loop-rest g l = HasSent l.fn.bytes l.rest (g.W.Write.contents l.fn.stream) (g.W.Write.contents l.stream)
    × (g.G.Gate.was_put l.gate ≡ g.G.Gate.was_put l.fn.gate)
    × (g.G.Gate.was_taken l.gate ≡ g.G.Gate.was_taken l.fn.gate)

abbrev pub decreases-loop-rest : goal.decreases-loop-rest
decreases-loop-rest g l = length l.rest
