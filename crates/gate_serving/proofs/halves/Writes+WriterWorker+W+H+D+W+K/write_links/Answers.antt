use Rattle.gate_workers.specs.SharedWriters.{HasEnded}
use Rattle.gate_serving.proofs.Served.{one_written}
use Rattle.gate_serving.proofs.halves.Writes+WriterWorker+W+H+D+W+K.write_links.Goals as goal

pub loop-before-preserved : goal.loop-before-preserved
loop-before-preserved g c =
    one_written (HasEnded g.W.Write.contents) c.write_link-end.result _ _ _ c.loop-before.invariant
    c.write_link-end.ensures.written
