-- A desk may be sent where its hasher may be.
use denote.RattleType.{RattleType}
use denote.Param.Send.{IsSend, sendable, view_send}
use denote.Param.SendFields.{declared_send}
use Rattle.std.specs.declared.hash.Hasher as Hasher
use Rattle.std.specs.declared.hash.BuildHasher as BuildHasher
use Rattle.std.proofs.Crossing.{crosses}
use Rattle.desk_rings.proofs.Sent.{inlet_consumer_send, outlet_producer_send}
use Rattle.desk_rings.specs.declared.name.DeskName as DeskName
use Rattle.desk_side.specs.contracts.side.Side as Side
use Rattle.desk_steps.proofs.Sent.{recorded_send}
use Rattle.journal_log.specs.contracts.host_file.HostFile as HostFile
use Rattle.journal_log.specs.contracts.host_file.HostFileLogFile as HostFileLogFile
use Rattle.journal_log.specs.contracts.turn_log.TurnLog as TurnLog
use Rattle.desk_steps.specs.contracts.value.Desk as Desk

host_file_send : IsSend HostFile.the_row
host_file_send = declared_send HostFile.the_type (
  search (sendable, crosses) depth 60,
  (
    search (sendable, crosses) depth 60,
    (
      search (sendable, crosses) depth 60,
      (search sendable, (search sendable, (search (sendable, crosses) depth 100 fits 500000, tt))),
    ),
  ),
)

turn_log_send : IsSend (TurnLog.the_row HostFile.the_row HostFileLogFile.TheImpl.ghosts)
turn_log_send = search (host_file_send, sendable, crosses) depth 100 fits 500000

side_send : IsSend Side.the_row
side_send = search (inlet_consumer_send, outlet_producer_send, sendable, crosses) depth 100 fits 500000

module _ (K S T : RattleType) (k : DeskName.Ghosts K.Denot) where
  module _ (g : BuildHasher.Ghosts S.Denot T.Denot) (h : Hasher.Ghosts T.Denot) (s : IsSend S) where
    pub desk_send : IsSend (Desk.the_row K S T k g h)
    desk_send = view_send _ _ _ _ _ (declared_send (Desk.TheInside.the_type K S T k g h) (
      recorded_send S T g h s,
      (
        side_send,
        (
          search (turn_log_send, sendable, crosses) depth 40,
          (search (sendable, crosses) depth 40, tt),
        ),
      ),
    ))
