-- The market's end of a SoupBinTCP session, over a book: what each event leaves, and which packets go out. (SoupBinTCP
-- 3.00, "Login Accepted Packet", "Login Rejected Packet", "Sequenced Data Packet", "Server Heartbeat Packet", "Logout
-- Request Packet". That other packets do nothing, and that a client's heartbeat is answered by one, is this market's
-- own.)
use Rattle.std.specs.Prelude.{◌≡◌, ℕ, ◌+◌, ◌-◌, ◌==◌, Bool, not, ◌||◌, nat_le, List, [], ◌∷◌, ◌++◌, map}
use Rattle.std.specs.Prelude.{length, take, drop, replicate, Option, Some, None, if◌then◌else◌, bytes_eq, codes}
use Rattle.ouch_codec.specs.declared.inbound.Inbound.{Inbound}
use Rattle.ouch_codec.specs.Inbound.{inbound_bytes}
use Rattle.soup_packets.specs.declared.packet.Packet.{Packet}
use Rattle.market_book.specs.market_law.declared.choice.Choice.{Choice}
use Rattle.market_book.specs.market_law.Machine.{Machine, Step, act, inbound, opening_machine}
use Rattle.market_sim.specs.declared.event.SimEvent.{SimEvent}
use Rattle.market_sim.specs.declared.event.SimEvent.TheVariants as events
use Rattle.market_sim.specs.declared.link.SimLink.{SimLink}
use Rattle.market_sim.specs.declared.link.SimLink.TheVariants.{NoLink, Connected, LoggedIn}
use Rattle.market_sim.specs.Numbers.{number_asked, padded_number}
use Rattle.market_sim.specs.Outbound.{outbound_bytes}

pub record SimState : Type 0 where
  pub book : Machine
  -- every sequenced payload so far, the oldest first: their numbers are 1, 2 and so on
  pub kept : List (List ℕ)
  pub link : SimLink

abbrev pub opening_sim : SimState
opening_sim = record { book = opening_machine; kept = []; link = NoLink }

-- what an event leaves, and the packets that go out
pub record SimStep : Type 0 where
  pub state : SimState
  pub packets : List Packet

abbrev pub sends_nothing : SimState → SimStep
sends_nothing s = record { state = s; packets = [] }

-- ---- packets of the server

abbrev pub market_session : List ℕ
market_session = codes "SESSION001"

-- the session, and the number of the next sequenced packet
abbrev pub accepts_login : ℕ → Packet
accepts_login number = record { kind = 65; payload = market_session ++ padded_number number }

-- `S`: the session isn't there, or has no such number
abbrev pub rejects_login : Packet
rejects_login = record { kind = 74; payload = 83 ∷ [] }

abbrev pub sequenced_packet : List ℕ → Packet
sequenced_packet payload = record { kind = 83; payload = payload }

abbrev pub server_heartbeat : Packet
server_heartbeat = record { kind = 72; payload = [] }

-- ---- login: a user of 6 bytes, a password of 10, a session of 10, a number of 20

abbrev pub is_session_here : List ℕ → Bool
is_session_here session = bytes_eq session (replicate 10 32) || bytes_eq session market_session

abbrev pub known_number : ℕ → Option ℕ → Option ℕ
known_number count None = None
known_number count (Some number) = if nat_le number (count + 1) then Some number else None

-- the number that a login asks from, where it can be served: 1 to the next one
abbrev pub login_number : ℕ → List ℕ → Option ℕ
login_number count payload =
    if not (length payload == 46) then None
    else if not (is_session_here (take 10 (drop 16 payload))) then None
    else known_number count (number_asked (drop 26 payload))

abbrev pub answers_login : SimState → Option ℕ → SimStep
answers_login s None = record { state = s; packets = rejects_login ∷ [] }
answers_login s (Some number) = record {
  state = record s { link = LoggedIn };
  packets = accepts_login number ∷ map sequenced_packet (drop (number - 1) s.kept);
}

-- ---- what is said is kept, and goes out where a login was accepted

abbrev pub sent_on : SimLink → List (List ℕ) → List Packet
sent_on LoggedIn payloads = map sequenced_packet payloads
sent_on other payloads = []

abbrev pub keeps_said : SimState → List (List ℕ) → SimStep
keeps_said s payloads = record { state = record s { kept = s.kept ++ payloads }; packets = sent_on s.link payloads }

abbrev pub booked : SimState → Step → SimStep
booked s step = keeps_said (record s { book = step.machine }) (map outbound_bytes step.says)

-- ---- a packet

-- a payload is this message, or none
abbrev pub IsReadAs : List ℕ → Option Inbound → Type 0
IsReadAs payload (Some message) = inbound_bytes message ≡ payload
IsReadAs payload None = (message : Inbound) → inbound_bytes message ≡ payload → ⊥

abbrev pub hears : SimState → Option Inbound → Choice → SimStep
hears s None choice = sends_nothing s
hears s (Some message) choice = booked s (inbound s.book message choice)

-- L before a login was accepted; U, R and O behind it
abbrev pub on_packet : SimState → SimLink → Packet → Option Inbound → Choice → SimStep
on_packet s NoLink packet read choice = sends_nothing s
on_packet s Connected packet read choice =
    if packet.kind == 76 then answers_login s (login_number (length s.kept) packet.payload) else sends_nothing s
on_packet s LoggedIn packet read choice =
    if packet.kind == 85 then hears s read choice
    else if packet.kind == 82 then record { state = s; packets = server_heartbeat ∷ [] }
    else if packet.kind == 79 then sends_nothing (record s { link = NoLink })
    else sends_nothing s

-- ---- an event

-- what is read of its payload, if it has one
abbrev pub ReadsEvent : SimEvent → Option Inbound → Type 0
ReadsEvent (events.Packet packet choice) read = IsReadAs packet.payload read
ReadsEvent other read = read ≡ None

abbrev pub sim_step : SimState → SimEvent → Option Inbound → SimStep
sim_step s events.Up read = sends_nothing (record s { link = Connected })
sim_step s (events.Packet packet choice) read = on_packet s s.link packet read choice
sim_step s (events.Act choice) read = booked s (act s.book choice)
sim_step s events.Gone read = sends_nothing (record s { link = NoLink })

-- a call did this
pub record IsStepOfSim (step : SimStep) (state : SimState) (packets : List Packet) : Type 0 where
  pub state_is : state ≡ step.state
  pub packets_are : packets ≡ step.packets
