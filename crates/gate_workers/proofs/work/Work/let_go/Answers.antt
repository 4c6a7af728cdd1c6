use Rattle.std.proofs.Common.{map, Option, subst, sym}
use Rattle.link_io.specs.Seen.{link_out_seen}
use Rattle.std.proofs.Math.Logic.{∥∥₁_map}
use Rattle.gate_workers.specs.declared.link.Link.{Link}
use Rattle.gate_workers.specs.SharedWriters.{WriterKept}
use Rattle.gate_workers.proofs.Keeping.{kept_let_go}
use Rattle.gate_workers.proofs.work.Work.let_go.Goals as goal

pub invariant_of-self : goal.invariant_of-self
invariant_of-self g c = record {
  kept =
      subst (λ (o : Option (Link _ _)). ∥ WriterKept g.W.Write.contents g.G.Gate.was_taken c.args.self.now.links o
      c.take.new.self ∥₁) (sym c.in-None.is)
      (∥∥₁_map (subst (λ (o : Option (Link _ _)). ∥ WriterKept g.W.Write.contents g.G.Gate.was_taken
      c.args.self.now.links
      o c.args.self.now.gate ∥₁) c.in-None.is c.args.self.now.kept)
      (kept_let_go g.W.Write.contents g.G.Gate.was_taken c.args.self.now.links c.args.self.now.gate c.take.new.self
      (λ outs. map link_out_seen outs.items) c.take.result c.if-self-eq0.false c.take.ensures.taken
      c.take.ensures.none));
}
