use Rattle.std.proofs.Math.Logic.{∥∥₁_map}
use Rattle.gate_workers.proofs.Keeping.{kept_same}
use Rattle.gate_workers.proofs.work.Work.turn.Goals as goal

pub invariant_of-self : goal.invariant_of-self
invariant_of-self g c = record {
  kept = ∥∥₁_map c.args.self.now.kept (kept_same g.W.Write.contents g.G.Gate.was_taken c.args.self.now.links
      c.args.self.now.link c.args.self.now.gate c.turn.new.self c.turn.ensures.none_taken);
}
