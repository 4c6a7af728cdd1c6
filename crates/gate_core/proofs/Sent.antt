-- A core may go to another thread where its hasher may.
use denote.RattleType.{RattleType}
use denote.Param.Send.{IsSend, sendable, view_send}
use denote.Param.SendFields.{declared_send}
use Rattle.std.specs.declared.hash.Hasher as Hasher
use Rattle.std.specs.declared.hash.BuildHasher as BuildHasher
use Rattle.std.proofs.Crossing.{crosses}
use Rattle.order_core.proofs.Sent.{order_core_send}
use Rattle.order_core.specs.contracts.order_core.OrderCore as OrderCore
use Rattle.gate_core.specs.contracts.parts.Parts as Parts
use Rattle.gate_core.specs.contracts.whole.Core as Core

module _ (S T : RattleType) (g : BuildHasher.Ghosts S.Denot T.Denot) (h : Hasher.Ghosts T.Denot) (s : IsSend S) where
  orders : IsSend (OrderCore.the_row S T g h)
  orders = order_core_send S T g h s

  parts : IsSend (Parts.the_row S T g h)
  parts = search (orders, sendable, crosses) depth 100 fits 500000

  number : IsSend (denote.Hole.as_row denote.Struct.Field.u64-field)
  number = search sendable

  pub core_send : IsSend (Core.the_row S T g h)
  core_send = view_send _ _ _ _ _ (declared_send (Core.TheInside.the_type S T g h) (parts, (number, (number, tt))))
