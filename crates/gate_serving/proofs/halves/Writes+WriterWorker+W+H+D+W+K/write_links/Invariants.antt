use Rattle.gate_workers.specs.SharedWriters.{HasEnded}
use Rattle.gate_serving.specs.Lines.{LineWrittenBy}
use Rattle.gate_serving.proofs.halves.Writes+WriterWorker+W+H+D+W+K.write_links.Given as goal

abbrev pub invariant-loop-before : goal.invariant-loop-before
invariant-loop-before g l = LineWrittenBy (HasEnded g.W.Write.contents) l.fn.self.worker l.self.worker
