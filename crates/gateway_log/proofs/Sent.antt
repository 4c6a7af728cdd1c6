-- What tells of links, counts them or syncs later may go to another thread.
use denote.RattleType.{RattleType}
use denote.Ref.{NamedLft}
use denote.Param.Send.{IsSend, IsSync, sendable}
use denote.Param.SendFields.{declared_send}
use Rattle.std.proofs.Crossing.{crosses}
use Rattle.journal_log.specs.contracts.later.LaterSync as LaterSync
use Rattle.gateway_log.specs.contracts.counted.CountedLinks as CountedLinks
use Rattle.gateway_log.specs.contracts.link_log.LinkLog as LinkLog
use Rattle.gateway_log.specs.contracts.logged_gate.LoggedGate as LoggedGate
use Rattle.gateway_log.specs.contracts.memory_watch.MemoryWatch as MemoryWatch
use Rattle.gateway_log.specs.contracts.sync_timer.SyncTimer as SyncTimer

later_send : IsSend LaterSync.the_row
later_send = search (sendable, crosses) depth 100 fits 500000

pub timer_send : IsSend (SyncTimer.the_row LaterSync.the_row)
timer_send = search (later_send, sendable, crosses) depth 100 fits 500000

module _ (a : NamedLft) (R : RattleType) (r : IsSync R) where
  pub link_log_send : IsSend (LinkLog.the_row a R)
  link_log_send = declared_send (LinkLog.the_type a R)
      (search (r, sendable) depth 40, (search (sendable, crosses) depth 40, tt))

  pub logged_gate_send : (G : RattleType) → IsSend G → IsSend (LoggedGate.the_row a G R)
  logged_gate_send G g = declared_send (LoggedGate.the_type a G R) (
    search (g, sendable) depth 40,
    (search (sendable, crosses) depth 40, (search (link_log_send, sendable) depth 40, tt)),
  )

  pub memory_watch_send : IsSend (MemoryWatch.the_row a R)
  memory_watch_send = declared_send (MemoryWatch.the_type a R)
      (search (link_log_send, sendable) depth 40, (search (sendable, crosses) depth 40, tt))

pub counted_send : (a : NamedLft) (A : RattleType) → IsSend A → IsSend (CountedLinks.the_row a A)
counted_send a A s = declared_send (CountedLinks.the_type a A)
    (search (s, sendable) depth 40, (search (sendable, crosses) depth 40, (search (sendable, crosses) depth 40, tt)))
