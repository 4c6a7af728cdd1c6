use Rattle.std.proofs.Common.{Option, subst, refl, rules, sym, ap}
use Rattle.std.proofs.Math.Logic.{∥∥₁_map}
use Rattle.gate_workers.specs.declared.link.Link.{Link}
use Rattle.gate_workers.specs.SharedWriters.{WriterKept}
use Rattle.gate_workers.proofs.Keeping.{kept_opened}
use Rattle.gate_workers.proofs.work.Work.open.Goals as goal

pub invariant_of-self : goal.invariant_of-self
invariant_of-self g c = record {
  kept =
      ∥∥₁_map (subst (λ (o : Option (Link _ _)). ∥ WriterKept g.W.Write.contents g.G.Gate.was_taken
      c.args.self.now.links o
      c.args.self.now.gate ∥₁) c.in-None.is c.args.self.now.kept)
      (kept_opened g.W.Write.contents g.G.Gate.was_taken c.args.self.now.links c.in-Some-checked_add.links
      c.args.self.now.gate _ (search rules) c.of-gate_then.ensures
      (ap g.W.Write.contents (sym c.of-stream_then.ensures)) (rw c.new-writer.ensures refl)
      (rw c.new-writer.ensures refl) (rw c.new-writer.ensures refl) (rw c.new-writer.ensures refl));
}
