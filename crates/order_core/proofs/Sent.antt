-- A core of orders may go to another thread where its hasher may.
use denote.RattleType.{RattleType}
use denote.Param.Send.{IsSend, sendable, view_send}
use denote.Param.SendFields.{declared_send}
use Rattle.std.specs.declared.hash.Hasher as Hasher
use Rattle.std.specs.declared.hash.BuildHasher as BuildHasher
use Rattle.std.proofs.Crossing.{crosses}
use Rattle.order_core.proofs.LedgerSent.{ledger_send}
use Rattle.order_core.specs.contracts.order_core.OrderCore as OrderCore

module _ (S T : RattleType) (g : BuildHasher.Ghosts S.Denot T.Denot) (h : Hasher.Ghosts T.Denot) (s : IsSend S) where
  pub order_core_send : IsSend (OrderCore.the_row S T g h)
  order_core_send = view_send _ _ _ _ _ (declared_send (OrderCore.TheInside.the_type S T g h)
      (ledger_send S T g h s, (search (sendable, crosses) depth 100 fits 500000, tt)))
