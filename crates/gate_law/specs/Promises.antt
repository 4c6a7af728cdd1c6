-- What is promised of single events beside what they give: which messages go to the market, what a fault does, whom a
-- batch names.
use Rattle.std.specs.Prelude.{◌≡◌, ℕ, ◌==◌, Bool, true, false, not, ◌&&◌, List, [], Option, Some, None, is_some}
use Rattle.std.specs.Prelude.{option_map}
use Rattle.order_law.specs.ouch_codec.Values.{decoded}
use Rattle.soup_session.specs.declared.port_fault.PortFault.{PortFault}
use Rattle.soup_session.specs.declared.port_state.PortState.TheVariants.{Faulted}
use Rattle.soup_session.specs.States.{is_up}
use Rattle.soup_session.specs.Table as port
use Rattle.session_law.specs.Runs.{OnMessage}
use Rattle.order_law.specs.History.{Entry, outstanding}
use Rattle.order_law.specs.Lawful.{token_of_heard}
use Rattle.order_law.specs.Told.{on_token}
use Rattle.order_law.specs.Headline.{EachWith, SaysIn}
use Rattle.gate_law.specs.Settings.{Settings, terms, port_of}
use Rattle.gate_law.specs.Events.{Event, ClientUp, ClientMessage, ClientGone, ClientTick, PortUp, PortPacket, PortGone}
use Rattle.gate_law.specs.Events.{PortTick, Batch}
use Rattle.gate_law.specs.Lists.{Lists}
use Rattle.gate_law.specs.Sessions.{client_answer, port_answer, port_state}
use Rattle.gate_law.specs.Outcome.{messages, is_stepped}
use Rattle.gate_law.specs.After.{lists_after}

-- ---- asked once, and again only while unanswered

-- a client's session delivers a message to the order level
abbrev pub delivers_message : Settings → Event → Lists → Bool
delivers_message s (ClientUp client link at) v = false
delivers_message s (ClientMessage client link at frame) v = is_some
    (client_answer s client (v.client_calls client) (at, OnMessage frame)).app
delivers_message s (ClientGone client link at) v = false
delivers_message s (ClientTick client at) v = false
delivers_message s (PortUp p link at) v = false
delivers_message s (PortPacket p link at packet) v = false
delivers_message s (PortGone p link at) v = false
delivers_message s (PortTick p at) v = false

-- a port comes up: it wasn't, and is after this packet (SoupBinTCP 3.00, "Login Accepted Packet")
abbrev pub comes_up : Settings → Event → Lists → Bool
comes_up s (PortPacket p link at packet) v = not (is_up (port_state s p (v.port_calls p)))
    && is_up (port_answer s p (v.port_calls p) (port.OnPacket packet at)).after.state
comes_up s other v = false

-- a port that comes up
abbrev pub port_in : Event → ℕ
port_in (PortUp p link at) = p
port_in (PortPacket p link at packet) = p
port_in (PortGone p link at) = p
port_in (PortTick p at) = p
port_in other = 0

abbrev pub AsksOnlyThen : Bool → Batch → Type 0
AsksOnlyThen true b = Unit {0}
AsksOnlyThen false b = messages b ≡ []

abbrev pub AsksAgain : Bool → Settings → ℕ → Bool → Batch → Lists → Type 0
AsksAgain true s p asks b v = EachWith (SaysIn (terms s) v.turns p) (outstanding (terms s) p v.turns) (messages b)
AsksAgain false s p asks b v = AsksOnlyThen asks b

-- The event by which a port comes up sends all that is outstanding on it, in order. One by which a client's message
-- is delivered sends what the order level's turn has. No other event sends anything.
abbrev pub Asks : Settings → Event → Batch → Lists → Type 0
Asks s e b v = AsksAgain (is_stepped s e v && comes_up s e v) s (port_in e)
    (is_stepped s e v && delivers_message s e v) b v

-- ---- a fault closes its port alone

-- The link is closed and the port faulted; no client is told anything, and no other session is called.
pub record ClosesPort (s : Settings) (e : Event) (b : Batch) (v : Lists) (fault : PortFault) (p : ℕ) : Type 0 where
  pub port : b.port ≡ Some p
  pub state : port_state s p ((lists_after s e b v).port_calls p) ≡ Faulted fault
  pub link : (lists_after s e b v).port_link p ≡ None
  pub reports : b.reports ≡ []
  pub client_out : b.client_out ≡ []
  pub clients : (c : ℕ) → (lists_after s e b v).client_calls c ≡ v.client_calls c
  pub client_links : (c : ℕ) → (lists_after s e b v).client_link c ≡ v.client_link c
  pub ports : (q : ℕ) → (q == p) ≡ false → (lists_after s e b v).port_calls q ≡ v.port_calls q
  pub port_links : (q : ℕ) → (q == p) ≡ false → (lists_after s e b v).port_link q ≡ v.port_link q

abbrev pub ByFault : Settings → Event → Batch → Lists → Option PortFault → Type 0
ByFault s e b v None = Unit {0}
ByFault s e b v (Some fault) = (p : ℕ) × ClosesPort s e b v fault p

abbrev pub Faults : Settings → Event → Batch → Lists → Type 0
Faults s e b v = ByFault s e b v b.fault

-- ---- targets: whom a batch may name at most

-- A payload is for the client whose order the token of its message leads to. One that is no message, or has no token,
-- is for nobody.
abbrev pub by_token : Settings → ℕ → Option (List ℕ) → Lists → Option ℕ
by_token s p None v = None
by_token s p (Some payload) v = option_map (λ (new : Entry). new.client)
    (on_token (terms s) p v.turns (token_of_heard (decoded payload)))

abbrev pub client_target : Settings → Event → Lists → Option ℕ
client_target s (ClientUp client link at) v = Some client
client_target s (ClientMessage client link at frame) v = Some client
client_target s (ClientGone client link at) v = Some client
client_target s (ClientTick client at) v = Some client
client_target s (PortUp p link at) v = None
client_target s (PortPacket p link at packet) v = by_token s p
    (port_answer s p (v.port_calls p) (port.OnPacket packet at)).payload v
client_target s (PortGone p link at) v = None
client_target s (PortTick p at) v = None

-- a frame is for its client's port
abbrev pub port_target : Settings → Event → Option ℕ
port_target s (ClientUp client link at) = None
port_target s (ClientMessage client link at frame) = Some (port_of s client)
port_target s (ClientGone client link at) = None
port_target s (ClientTick client at) = None
port_target s (PortUp p link at) = Some p
port_target s (PortPacket p link at packet) = Some p
port_target s (PortGone p link at) = Some p
port_target s (PortTick p at) = Some p

abbrev pub IsAmong : Option ℕ → Option ℕ → Type 0
IsAmong None target = Unit {0}
IsAmong (Some n) target = target ≡ Some n

-- the batch names nobody else
pub record Targets (s : Settings) (e : Event) (b : Batch) (v : Lists) : Type 0 where
  pub client : IsAmong b.client (client_target s e v)
  pub port : IsAmong b.port (port_target s e)
