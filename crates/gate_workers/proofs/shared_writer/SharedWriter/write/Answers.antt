use Rattle.gate_workers.proofs.Keeping.{all_written}
use Rattle.gate_workers.proofs.shared_writer.SharedWriter.write.Goals as goal

pub returns-in-Some : goal.returns-in-Some
returns-in-Some g c = record {
  all =
      λ is. all_written g.W.Write.contents g.G.Gate.was_taken c.write.new.self.links c.write.new.self.link
      c.write.new.self.gate c.write.new.self.kept (c.write.ensures.all is);
}
