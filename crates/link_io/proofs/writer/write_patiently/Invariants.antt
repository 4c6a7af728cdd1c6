use Rattle.std.proofs.Common.{◌≡◌}
use Rattle.std.specs.Io.KnownBytes.{Keeps}
use Rattle.link_io.proofs.writer.write_patiently.Given as goal

-- writes that failed left the bytes as they were, and nothing went through the gate
abbrev pub invariant-loop : goal.invariant-loop
invariant-loop g l = Keeps (g.W.Write.contents l.fn.stream) (g.W.Write.contents l.stream)
    × (g.G.Gate.was_put l.gate ≡ g.G.Gate.was_put l.fn.gate)
    × (g.G.Gate.was_taken l.gate ≡ g.G.Gate.was_taken l.fn.gate)
