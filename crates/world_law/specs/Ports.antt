-- A port of the core: how its session stands, what an event leaves of it, and what its link is told.
use Rattle.std.specs.Prelude.{◌≡◌, ℕ, ◌+◌, ◌⊎◌, Bool, true, false, List, [], ◌∷◌, map, Option, Some, None, Ok}
use Rattle.std.specs.Prelude.{if◌then◌else◌}
use Rattle.soup_packets.specs.declared.packet.Packet.{Packet}
use Rattle.soup_packets.specs.Spelling.{packet_bytes}
use Rattle.soup_session.specs.declared.port_state.PortState.TheVariants.{Down, Up}
use Rattle.soup_session.specs.States.{is_up}
use Rattle.soup_session.specs.Writing.{login, padded_right, message_packet, heartbeat}
use Rattle.order_law.specs.ouch_codec.declared.outbound.Outbound.{Outbound}
use Rattle.order_law.specs.ouch_codec.Values.{decoded}
use Rattle.order_law.specs.History.{handled, outstanding}
use Rattle.order_law.specs.Headline.{Each, EachWith, Headline, SaysIn}
use Rattle.soup_session.specs.Table.{PortStanding, standing, wanted}
use Rattle.gate_law.specs.Settings.{Settings, port_terms, terms}
use Rattle.gate_law.specs.Events.{Event, ClientUp, ClientMessage, ClientGone, ClientTick, PortUp, PortPacket, PortGone}
use Rattle.gate_law.specs.Events.{PortTick, LinkOut, Write, Close, Batch, Turn, History, is_the_number}
use Rattle.gate_law.specs.Lists.{Lists}
use Rattle.gate_law.specs.Outcome.{messages}
use Rattle.gate_law.specs.After.{lists_after}
use Rattle.gate_law.specs.Due.{Gives}
use Rattle.gate_law.specs.Promises.{Asks}
use Rattle.world_law.specs.Asked.{BytesAsked}

-- what a history that keeps the promise has of its last event, at the lists before it
pub record StepHolds (s : Settings) (e : Event) (b : Batch) (v : Lists) : Type 0 where
  pub gives : Gives s e b v
  pub asks : Asks s e b v
  pub orders : Headline (terms s) (lists_after s e b v).turns

-- how a port's session stands after these lists
abbrev pub port_standing : Settings → Lists → ℕ → PortStanding
port_standing s v p = standing (port_terms s p) (v.port_calls p)

-- no batch has a fault
abbrev pub NoFaults : History → Type 0
NoFaults h = Each (λ (t : Turn). t.batch.fault ≡ None) h

-- the payloads are decoded as these messages, one by one
abbrev pub AreDecoded : List (List ℕ) → List Outbound → Type 0
AreDecoded payloads messages =
    EachWith (λ (payload : List ℕ) (m : Outbound). decoded payload ≡ Ok m) payloads messages

-- what a batch tells the link of a port: nothing where it names another port
abbrev pub outs_to_port : ℕ → Batch → List LinkOut
outs_to_port p b = if is_the_number p b.port then b.port_out else []

-- two standings are the same but for their moments
pub record StandsAs (x y : PortStanding) : Type 0 where
  pub state : x.state ≡ y.state
  pub session : x.session ≡ y.session
  pub arrived : x.arrived ≡ y.arrived
  pub number : x.number ≡ y.number

-- A port after an event: its link is told `outs`, its current link is `current`, its session stands as `x`, and
-- `said` is what was handled of it, the newest first.
pub record PortAfter (s : Settings) (e : Event) (b : Batch) (v : Lists) (p : ℕ) (outs : List LinkOut)
    (current : Option ℕ) (x : PortStanding) (said : List Outbound) : Type 0 where
  pub told : outs_to_port p b ≡ outs
  pub link : (lists_after s e b v).port_link p ≡ current
  pub stands : StandsAs (port_standing s (lists_after s e b v) p) x
  pub heard : handled p (lists_after s e b v).turns ≡ said

-- the login that a port's session writes as its link comes up: for the next payload that it wants
abbrev pub login_due : Settings → Lists → ℕ → Packet
login_due s v p =
    login (padded_right 6 (port_terms s p).user) (padded_right 10 (port_terms s p).password)
    (port_standing s v p).session (wanted (port_standing s v p))

-- messages as they are written on a link, one after another
abbrev pub messages_on : ℕ → List (List ℕ) → List LinkOut
messages_on link messages = map (λ (m : List ℕ). Write link (packet_bytes (message_packet m))) messages

-- on the current link, if there is one
abbrev pub written_on : Option ℕ → List (List ℕ) → List LinkOut
written_on None messages = []
written_on (Some link) messages = messages_on link messages

-- Time passes on a current link: the port is as it was, or up and a heartbeat is written, or nothing was heard for too
-- long, and the link is closed.
abbrev pub TickLeaves : Settings → ℕ → ℕ → Batch → Lists → ℕ → Type 0
TickLeaves s p at b v link =
    PortAfter s (PortTick p at) b v p [] (Some link) (port_standing s v p) (handled p v.turns)
    ⊎ ((((port_standing s v p).state ≡ Up)
    × PortAfter s (PortTick p at) b v p (Write link (packet_bytes heartbeat) ∷ []) (Some link) (port_standing s v p)
    (handled p v.turns))
    ⊎ PortAfter s (PortTick p at) b v p (Close link ∷ []) None (record (port_standing s v p) { state = Down })
    (handled p v.turns))

-- A port's login is accepted: it is up, and is sent all that is outstanding on it, which was asked of it.
pub record LogsIn (s : Settings) (e : Event) (b : Batch) (v : Lists) (p link : ℕ) (session : List ℕ)
    (number : ℕ) : Type 0 where
  pub after :
      PortAfter s e b v p
      (messages_on link (messages b))
      (Some link)
      (record (port_standing s v p) { state = Up; session = session; number = number })
      (handled p v.turns)
  pub fault : b.fault ≡ None
  pub again : EachWith (SaysIn (terms s) v.turns p) (outstanding (terms s) p v.turns) (messages b)
  pub asked : Each (BytesAsked (terms s) p v.turns) (messages b)

-- A port's session as it stands once it has delivered a message, the payload with the number that it wanted.
abbrev pub with_message : List ℕ → PortStanding → PortStanding
with_message payload x = record x {
  arrived = record { number = x.number; payload = payload } ∷ x.arrived;
  number = x.number + 1;
}

-- an event of a client
abbrev pub is_of_client : Event → Bool
is_of_client (ClientUp client link at) = true
is_of_client (ClientMessage client link at frame) = true
is_of_client (ClientGone client link at) = true
is_of_client (ClientTick client at) = true
is_of_client (PortUp p link at) = false
is_of_client (PortPacket p link at packet) = false
is_of_client (PortGone p link at) = false
is_of_client (PortTick p at) = false

-- An event of a client, on a port: its messages go out on the port's current link, which stays, each of which was asked
-- of the port, and none where the port isn't up; its session stands as it stood, and nothing is at fault.
pub record SendsAsked (s : Settings) (e : Event) (b : Batch) (v : Lists) (p : ℕ) (ms : List (List ℕ)) : Type 0 where
  pub after :
      PortAfter s e b v p
      (written_on (v.port_link p) ms)
      (v.port_link p)
      (port_standing s v p)
      (handled p v.turns)
  pub fault : b.fault ≡ None
  pub asked : Each (BytesAsked (terms s) p (lists_after s e b v).turns) ms
  pub down : is_up (port_standing s v p).state ≡ false → ms ≡ []
