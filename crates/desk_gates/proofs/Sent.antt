-- An outlet's writer may be shared, and an inlet's gate may go to another thread, since what the threads share of a
-- desk may be shared.
use denote.RattleType.{RattleType}
use denote.Ref.{NamedLft}
use denote.Param.Send.{IsSend, IsSync, sendable}
use denote.Param.SendFields.{declared_send, declared_sync}
use Rattle.std.specs.declared.hash.Hasher as Hasher
use Rattle.std.specs.declared.hash.BuildHasher as BuildHasher
use Rattle.std.specs.declared.io.Write as Write
use Rattle.std.proofs.Crossing.{crosses}
use Rattle.gate_workers.specs.link_io.declared.streams.Prompt as Prompt
use Rattle.gate_workers.specs.link_io.declared.gate.Gate as Gate
use Rattle.gate_workers.proofs.Sent.{shared_writer_sync}
use Rattle.desk.proofs.Sent.{inlet_send, outlet_send, shared_sync}
use Rattle.desk.specs.desk_rings.declared.name.DeskName as DeskName
use Rattle.desk_gates.specs.contracts.inlet.InletGate as InletGate
use Rattle.desk_gates.specs.contracts.outlet.OutletGate as OutletGate
use Rattle.desk_gates.specs.contracts.outlet_writer.OutletWriter as OutletWriter

module _ (K S T : RattleType) (k : DeskName.Ghosts K.Denot) (g : BuildHasher.Ghosts S.Denot T.Denot)
    (h : Hasher.Ghosts T.Denot) (ss : IsSend S) where
  pub outlet_gate_send : (a : NamedLft) → IsSend (OutletGate.the_row a K S T k g h)
  outlet_gate_send a = let shared = shared_sync K S T k g h ss in declared_send (OutletGate.the_type a K S T k g h) (
    search (shared, sendable) depth 40,
    (
      search (outlet_send, sendable) depth 40,
      (
        search sendable depth 40,
        (search sendable depth 40, (search sendable depth 40, (search (sendable, crosses) depth 40, tt))),
      ),
    ),
  )

module _ (W G : RattleType) (p : Prompt.Ghosts W.Denot) (w : Write.Ghosts W.Denot)
    (t : Gate.Ghosts G.Denot) (sw : IsSend W) (sg : IsSend G) where
  pub outlet_writer_sync : IsSync (OutletWriter.the_row W G p w t)
  outlet_writer_sync = declared_sync (OutletWriter.the_type W G p w t)
      (search (sendable, crosses) depth 40, (search (shared_writer_sync, sw, sg, sendable) depth 40, tt))

  module _ (K S T : RattleType) (k : DeskName.Ghosts K.Denot) (g : BuildHasher.Ghosts S.Denot T.Denot)
      (h : Hasher.Ghosts T.Denot) (ss : IsSend S) where
    pub inlet_gate_send : (q a : NamedLft) → IsSend (InletGate.the_row q a W G K S T p w t k g h)
    inlet_gate_send q a = let shared = shared_sync K S T k g h ss in declared_send
        (InletGate.the_type q a W G K S T p w t k g h) (
          search (shared, sendable) depth 40,
          (
            search (outlet_writer_sync, sendable, crosses) depth 40,
            (search (inlet_send, sendable) depth 40, (search sendable depth 40, tt)),
          ),
        )
