use Rattle.gate_workers.proofs.Keeping.{is_written}
use Rattle.gate_workers.proofs.shared_writer.SharedWriter.step.Goals as goal

pub returns : goal.returns
returns g c = is_written g.W.Write.contents g.G.Gate.was_taken c.step-stepped.result _ _ _ _
    c.step-stepped.ensures.steps
