use Rattle.std.proofs.Common.{Option, subst}
use Rattle.std.proofs.Math.Logic.{∥∥₁_map}
use Rattle.gate_workers.specs.declared.link.Link.{Link}
use Rattle.gate_workers.specs.SharedWriters.{WriterKept}
use Rattle.gate_workers.proofs.work.Work.into_gate.Goals as goal

pub returns-clause-written : goal.returns-clause-written
returns-clause-written g c =
    ∥∥₁_map (subst (λ (o : Option (Link _ _)). ∥ WriterKept g.W.Write.contents g.G.Gate.was_taken c.args.self.links o
    c.args.self.gate ∥₁) c.in-None.is c.args.self.kept)
    (λ (ends, count, written). (ends, written))
