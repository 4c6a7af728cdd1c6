-- What a line of a gateway holds may go to another thread, since what the threads share of a desk may be shared.
use denote.RattleType.{RattleType}
use denote.Ref.{NamedLft}
use denote.Param.Send.{IsSend, IsSync, enum_send, recorded_send, sendable}
use denote.Enum.Declared as E
use denote.Param.SendFields.{declared_send}
use Rattle.std.proofs.Crossing.{crosses}
use Rattle.std.specs.declared.hash.BuildHasher as BuildHasher
use Rattle.std.specs.declared.hash.Hasher as Hasher
use Rattle.std.specs.declared.io.Write as Write
use Rattle.link_io.specs.declared.gate.Gate as Gate
use Rattle.link_io.specs.declared.streams.Prompt as Prompt
use Rattle.desk_gates.proofs.desk.Sent.{shared_sync}
use Rattle.desk_gates.proofs.Sent.{inlet_gate_send, outlet_gate_send}
use Rattle.desk_gates.specs.contracts.inlet.InletGate as InletGate
use Rattle.desk_gates.specs.contracts.outlet.OutletGate as OutletGate
use Rattle.gateway_watch.proofs.Sent.{board_sync, order_watch_send}
use Rattle.gateway_log.proofs.Sent.{counted_send, link_log_send, logged_gate_send, memory_watch_send, timer_send}
use Rattle.desk_gates.specs.desk.declared.DeskName as DeskName
use Rattle.desk_gates.specs.contracts.waker.WakerClock as WakerClock
use Rattle.gateway_log.specs.contracts.counted.CountedLinks as CountedLinks
use Rattle.gateway_log.specs.contracts.run_opener.RunOpener as RunOpener
use Rattle.gateway_run.specs.contracts.clock.RunClock as RunClock
use Rattle.gateway_run.specs.contracts.clock.Watch as Watch
use Rattle.gateway_run.specs.contracts.port_faults.PortLinks as PortLinks
use Rattle.gateway_run.specs.contracts.run_gate.RunGate as RunGate
use Rattle.gateway_log.specs.contracts.logged_gate.LoggedGate as LoggedGate

module _ (a : NamedLft) (K R : RattleType) (k : DeskName.Ghosts K.Denot) (r : IsSync R) where
  pub waker_clock_send : (S T : RattleType) (g : BuildHasher.Ghosts S.Denot T.Denot) (h : Hasher.Ghosts T.Denot)
      → IsSend S
      → IsSend (WakerClock.the_row a K R S T k g h)
  waker_clock_send S T g h s = let shared = shared_sync K S T k g h s in
      declared_send (WakerClock.the_type a K R S T k g h) (
        search (r, sendable),
        (
          search (shared, sendable) depth 40,
          (
            search sendable,
            (search (sendable, crosses) depth 40, (search sendable, tt)),
          ),
        ),
      )

  pub port_links_send : (C : RattleType) → IsSend C → IsSend (PortLinks.the_row a C K R k)
  port_links_send C c = declared_send (PortLinks.the_type a C K R k) (
    search (r, sendable),
    (
      search (shared_sync, sendable) depth 40,
      (
        search sendable depth 40,
        (
          search (c, sendable),
          (
            search sendable,
            (
              search sendable,
              (
                search (sendable, crosses) depth 40,
                (
                  search (sendable, crosses) depth 40,
                  (search sendable, (search (sendable, crosses) depth 40, tt)),
                ),
              ),
            ),
          ),
        ),
      ),
    ),
  )

  pub watch_send : IsSend (Watch.the_row a K R k)
  watch_send = declared_send (Watch.the_type a K R k) (
    search (r, sendable),
    (
      search (sendable, crosses) depth 40,
      (
        search (shared_sync, sendable) depth 40,
        (
          search (sendable, crosses) depth 40,
          (
            search (sendable, crosses) depth 40,
            (
              search (board_sync, sendable) depth 40,
              (
                search sendable,
                (
                  search (memory_watch_send a R r, sendable) depth 40,
                  (
                    search sendable,
                    (search (order_watch_send a R r, sendable) depth 40, (search (timer_send, sendable) depth 40, tt)),
                  ),
                ),
              ),
            ),
          ),
        ),
      ),
    ),
  )

  pub run_gate_send : (G : RattleType) → IsSend G → IsSend (RunGate.the_row a G K R k)
  run_gate_send G g = declared_send (RunGate.the_type a G K R k) (
    search (g, sendable) depth 40,
    (
      search (r, sendable) depth 40,
      (
        search (sendable, crosses) depth 40,
        (
          search (shared_sync, sendable) depth 40,
          (
            search (link_log_send, r, sendable) depth 40,
            (
              search sendable,
              (search (sendable, crosses) depth 40, (search sendable, (search sendable, (search sendable, tt)))),
            ),
          ),
        ),
      ),
    ),
  )

  pub run_clock_send : IsSend (RunClock.the_row a K R k)
  run_clock_send = declared_send (RunClock.the_type a K R k)
      (search (r, sendable) depth 40, (search (watch_send, sendable) depth 40, tt))

pub opener_send : (a b : NamedLft) (A C K R : RattleType) (k : DeskName.Ghosts K.Denot) → IsSend A → IsSend C → IsSync R
    → IsSend (RunOpener.the_row (CountedLinks.the_row a A) (PortLinks.the_row b C K R k))
opener_send a b A C K R k s c r = let O = RunOpener.the_type (CountedLinks.the_row a A) (PortLinks.the_row b C K R k) in
    recorded_send _ _ _ O.to_one (enum_send (E.shape O)
    (search (counted_send a A s, port_links_send b K R k r C c, sendable) depth 40))

-- the gates of a line's writer, and of its reader or of the ticker
module _ (R : RattleType) (r : IsSync R) (K S T : RattleType) (k : DeskName.Ghosts K.Denot)
    (g : BuildHasher.Ghosts S.Denot T.Denot) (h : Hasher.Ghosts T.Denot) (s : IsSend S) where
  pub writing_gate_send : (a b : NamedLft) → IsSend (LoggedGate.the_row a (OutletGate.the_row b K S T k g h) R)
  writing_gate_send a b =
      logged_gate_send a R r (OutletGate.the_row b K S T k g h) (outlet_gate_send K S T k g h s b)

  pub reading_gate_send : (a b q : NamedLft) (W G : RattleType) (p : Prompt.Ghosts W.Denot)
      (w : Write.Ghosts W.Denot) (t : Gate.Ghosts G.Denot) → IsSend W → IsSend G
      → IsSend (RunGate.the_row a (InletGate.the_row q b W G K S T p w t k g h) K R k)
  reading_gate_send a b q W G p w t sw sg = run_gate_send a K R k r (InletGate.the_row q b W G K S T p w t k g h)
      (inlet_gate_send W G p w t sw sg K S T k g h s q b)
