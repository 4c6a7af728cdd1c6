-- What goes out on a link, over any list of events: every message from the number of its login on. (SoupBinTCP 3.00,
-- "Login Accepted Packet", "Sequenced Data Packet".)
use Rattle.std.specs.Prelude.{◌≡◌, ℕ, ◌+◌, ◌-◌, ◌==◌, ◌≤◌, List, [], ◌∷◌, ◌++◌, length, drop, Option, Some, None}
use Rattle.std.specs.Prelude.{if◌then◌else◌}
use Rattle.ouch_codec.specs.declared.inbound.Inbound.{Inbound}
use Rattle.soup_packets.specs.declared.packet.Packet.{Packet}
use Rattle.market_sim.specs.declared.event.SimEvent.{SimEvent}
use Rattle.market_sim.specs.declared.event.SimEvent.TheVariants as events
use Rattle.market_sim.specs.declared.link.SimLink.{SimLink}
use Rattle.market_sim.specs.declared.link.SimLink.TheVariants.{Connected, LoggedIn}
use Rattle.market_sim.specs.Sim.{SimState, SimStep, keeps_said, login_number, opening_sim, sim_step}

-- an event, with what is read of its payload, or a payload that the book didn't make
pub data SimMove : Type 0 where
  Comes : (event : SimEvent) (read : Option Inbound) → SimMove
  Says : (payload : List ℕ) → SimMove

-- the payloads of sequenced packets
abbrev pub payloads_in : List Packet → List (List ℕ)
payloads_in [] = []
payloads_in (p ∷ ps) = if p.kind == 83 then p.payload ∷ payloads_in ps else payloads_in ps

-- the number that a login begins from, where the event is one that is accepted
abbrev pub login_by : SimState → SimLink → Packet → Option ℕ
login_by s Connected packet = if packet.kind == 76 then login_number (length s.kept) packet.payload else None
login_by s other packet = None

abbrev pub begins : SimState → SimEvent → Option ℕ
begins s (events.Packet packet choice) = login_by s s.link packet
begins s other = None

-- the market after some moves, the number of the last login that was accepted, and the payloads sent since
pub record SimRun : Type 0 where
  pub state : SimState
  pub from : ℕ
  pub sent : List (List ℕ)

abbrev pub goes_on : Option ℕ → SimRun → SimStep → SimRun
goes_on None r step = record { state = step.state; from = r.from; sent = r.sent ++ payloads_in step.packets }
goes_on (Some number) r step = record { state = step.state; from = number; sent = payloads_in step.packets }

abbrev pub sim_moved : SimMove → SimRun → SimRun
sim_moved (Comes event read) r = goes_on (begins r.state event) r (sim_step r.state event read)
sim_moved (Says payload) r = goes_on None r (keeps_said r.state (payload ∷ []))

-- the newest move first
abbrev pub sim_run : List SimMove → SimRun
sim_run [] = record { state = opening_sim; from = 1; sent = [] }
sim_run (move ∷ before) = sim_moved move (sim_run before)

-- on a link with a login every message from its number on was sent, once and in order
pub record IsServed (r : SimRun) : Type 0 where
  pub sent : r.state.link ≡ LoggedIn → r.sent ≡ drop (r.from - 1) r.state.kept
  pub from : r.state.link ≡ LoggedIn → r.from ≤ length r.state.kept + 1
