-- What the threads share of a desk may be shared where its hasher may be sent.
use denote.RattleType.{RattleType}
use denote.Param.Send.{IsSend, IsSync, sendable}
use Rattle.std.specs.declared.hash.Hasher as Hasher
use Rattle.std.specs.declared.hash.BuildHasher as BuildHasher
use Rattle.std.proofs.Crossing.{crosses}
pub use Rattle.desk_rings.proofs.Sent.{inlet_send, outlet_send}
use Rattle.desk_rings.specs.declared.name.DeskName as DeskName
use Rattle.desk_steps.proofs.ValueSent.{desk_send}
use Rattle.desk.specs.contracts.shared.Shared as Shared

module _ (K S T : RattleType) (k : DeskName.Ghosts K.Denot) where
  module _ (g : BuildHasher.Ghosts S.Denot T.Denot) (h : Hasher.Ghosts T.Denot) (s : IsSend S) where
    pub shared_sync : IsSync (Shared.the_row K S T k g h)
    shared_sync = search (desk_send, sendable, crosses) depth 100 fits 500000
