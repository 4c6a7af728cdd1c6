-- Threads may share a writer where its stream and its gate may go to another thread.
use denote.RattleType.{RattleType}
use denote.Param.Send.{IsSend, IsSync, sendable}
use denote.Param.SendFields.{declared_send, declared_sync}
use Rattle.std.proofs.Crossing.{crosses}
use Rattle.link_io.specs.contracts.writer.BatchWriter as BatchWriter
use Rattle.link_io.specs.declared.streams.Prompt as Prompt
use Rattle.link_io.specs.declared.gate.Gate as Gate
use Rattle.std.specs.declared.io.Write as Write
use Rattle.gate_workers.specs.contracts.link.Link as Link
use Rattle.gate_workers.specs.contracts.work.Work as Work
use Rattle.gate_workers.specs.contracts.shared_writer.SharedWriter as SharedWriter

writer_send : IsSend BatchWriter.the_row
writer_send = search (sendable, crosses) depth 100 fits 500000

module _ (W G : RattleType) (sw : IsSend W) (sg : IsSend G) where
  link_send : IsSend (Link.the_row W G)
  link_send = declared_send (Link.the_type W G) (
    search (writer_send, sendable, crosses) depth 40,
    (
      search (sw, sendable) depth 40,
      (
        search (sendable, crosses) depth 40,
        (search (sendable, crosses) depth 40, tt),
      ),
    ),
  )

  module _ (p : Prompt.Ghosts W.Denot) (w : Write.Ghosts W.Denot) (g : Gate.Ghosts G.Denot) where
    work_send : IsSend (Work.the_row W G p w g)
    work_send = declared_send (Work.the_type W G p w g) (
      search (sg, sendable) depth 40,
      (
        search sendable depth 40,
        (search (link_send, sendable, crosses) depth 40, tt),
      ),
    )

    pub shared_writer_sync : IsSync (SharedWriter.the_row W G p w g)
    shared_writer_sync = search (work_send, sendable, crosses) depth 100 fits 500000
