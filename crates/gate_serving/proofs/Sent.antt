-- What writes a line's links through a shared writer may go to another thread where that one's stream and gate may.
use denote.RattleType.{RattleType}
use denote.Enum.Declared as E
use denote.Param.Send.{IsSend, IsSync, enum_send, recorded_send, sendable}
use denote.Param.SendFields.{declared_send, declared_sync}
use denote.Ref.{NamedLft}
use Rattle.std.proofs.Crossing.{crosses}
use Rattle.std.specs.declared.io.Write as Write
use Rattle.gate_workers.specs.link_io.declared.streams.Prompt as Prompt
use Rattle.gate_workers.specs.link_io.declared.gate.Gate as Gate
use Rattle.gate_workers.proofs.Sent.{shared_writer_sync}
use Rattle.gate_serving.specs.contracts.halves.Writes as Writes
use Rattle.gate_serving.specs.contracts.slot.Slot as Slot
use Rattle.gate_serving.specs.contracts.slot.State as State
use Rattle.gate_serving.specs.contracts.writer_worker.WriterWorker as WriterWorker

module _ (W G : RattleType) (p : Prompt.Ghosts W.Denot) (w : Write.Ghosts W.Denot) (t : Gate.Ghosts G.Denot)
    (sw : IsSend W) (sg : IsSend G) where
  pub writer_worker_send : (a : NamedLft) (C : RattleType) → IsSend C → IsSend (WriterWorker.the_row a W G C p w t)
  writer_worker_send a C c = let shared_writer = shared_writer_sync W G sw sg p w t in
      declared_send (WriterWorker.the_type a W G C p w t)
      (search (shared_writer, sendable, crosses) depth 40, (search (c, sendable) depth 40, tt))

-- a line's slot may be shared where the streams and closers that lie in it may go to another thread
module _ (W K : RattleType) (sw : IsSend W) (sk : IsSend K) where
  state_send : IsSend (State.the_row W K)
  state_send = let O = State.the_type W K in recorded_send _ _ _ O.to_one (enum_send (E.shape O)
      (search sendable depth 40))

  slot_sync : IsSync (Slot.the_row W K)
  slot_sync = declared_sync (Slot.the_type W K) (
    search (state_send, sendable, crosses) depth 40,
    (
      search (sendable, crosses) depth 40,
      (search (sendable, crosses) depth 40, (search (sendable, crosses) depth 40, tt)),
    ),
  )

-- and what is written with it may go to another thread then, too
pub writes_send : (b : NamedLft) (B W K : RattleType) → IsSend B → IsSend W → IsSend K → IsSend (Writes.the_row b B W K)
writes_send b B W K sb sw sk = let slot = slot_sync W K sw sk in declared_send (Writes.the_type b B W K) (
  search sendable depth 40,
  (search sendable depth 40, (search (sb, sendable) depth 40, (search (slot, sendable) depth 40, tt))),
)
