use Rattle.std.proofs.Common.{Option, subst, ap, refl}
use Rattle.std.proofs.Math.Logic.{∥∥₁_map}
use Rattle.gate_workers.specs.declared.link.Link.{Link}
use Rattle.gate_workers.specs.SharedWriters.{WriterKept}
use Rattle.gate_workers.proofs.SoFar.{so_far_tried}
use Rattle.gate_workers.proofs.Keeping.{kept_on}
use Rattle.gate_workers.proofs.work.Work.write.Goals as goal

pub invariant_of-self : goal.invariant_of-self
invariant_of-self g c = record {
  kept =
      ∥∥₁_map (subst (λ (o : Option (Link _ _)). ∥ WriterKept g.W.Write.contents g.G.Gate.was_taken
      c.args.self.now.links o
      c.args.self.now.gate ∥₁) c.in-Some.is c.args.self.now.kept)
      (kept_on g.W.Write.contents g.G.Gate.was_taken c.args.self.now.links c.in-Some.link _ c.args.self.now.gate
      c.step_once.new.gate refl refl
      (λ x l h. so_far_tried c.args.self.now.links c.in-Some.link.writer c.step_once.new.self x _ _ l _ _ h
      c.step_once.ensures.writes
      (λ f q. let same = c.step_once.ensures.refused f q in
      (same.1, ap g.W.Write.contents same.2, ap g.G.Gate.was_taken same.3)) c.step_once.ensures.limit));
}
