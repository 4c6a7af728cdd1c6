use Rattle.std.proofs.Common.{◌≡◌}
use Rattle.std.specs.Prelude.{Some}
use Rattle.gateway_run.specs.Own.{source_of_peer}
use Rattle.gateway_run.proofs.Kept.{pushed}
use Rattle.gateway_run.proofs.ends.Ends.keep.Goals as goal

pub invariant_of-self-clause-puts_own : goal.invariant_of-self-clause-puts_own
invariant_of-self-clause-puts_own g c = pushed _ _ _ _ c.push.ensures.items
    (λ l. l.reader.gate.gate.inlet.source ≡ source_of_peer l.peer) c.args.self.now.puts_own c.requires.puts_own

pub invariant_of-self-clause-takes_own : goal.invariant_of-self-clause-takes_own
invariant_of-self-clause-takes_own g c = pushed _ _ _ _ c.push.ensures.items
    (λ l. g.G.Gate.output_for l.writer.shared_writer.now.first.value ≡ Some l.peer)
    c.args.self.now.takes_own c.requires.takes_own
