use Rattle.link_io.proofs.Refilling.{writes_once}
use Rattle.link_io.proofs.writer.BatchWriter.try_lists.Goals as goal

pub returns-clause-writes : goal.returns-clause-writes
returns-clause-writes g c =
    writes_once c.args.self.now c.refill.new.self c.try_pending-is_written.new.self (g.G.Gate.was_taken c.args.gate.now)
    (g.G.Gate.was_taken c.refill.new.gate) (g.W.Write.contents c.args.stream.now)
    (g.W.Write.contents c.try_pending-is_written.new.stream) c.refill.ensures.refills c.try_pending-is_written.ensures.sent
    c.try_pending-is_written.ensures.left
