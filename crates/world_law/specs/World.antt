-- The closed world: one gateway with its settings, a market for each port, clients of whom nothing is assumed, and the
-- connections between the gateway and its markets, which may be lost with anything on their way. What each step does,
-- with the batch that the gateway gives to its event. (SoupBinTCP 3.00, "SoupBinTCP Session"; OUCH 4.2, "Overview".)
use Rattle.std.specs.Prelude.{◌≡◌, ℕ, ◌+◌, ◌==◌, Bool, true, false, List, [], ◌∷◌, ◌++◌, drop}
use Rattle.std.specs.Prelude.{Option, Some, None, if◌then◌else◌}
use Rattle.std.specs.List.{list_all, list_any}
use Rattle.market_law.specs.order_law.ouch_codec.declared.inbound.Inbound.{Inbound}
use Rattle.order_law.specs.ouch_codec.Values.{is_byte}
use Rattle.session_law.specs.fix_types.declared.application.AppMsg.{AppMsg}
use Rattle.session_law.specs.fix_types.Application.{message_fields}
use Rattle.session_law.specs.Runs.{OnMessage}
use Rattle.soup_packets.specs.declared.packet.Packet.{Packet}
use Rattle.soup_packets.specs.Spelling.{packet_bytes}
use Rattle.soup_session.specs.Table.{later}
use Rattle.order_law.specs.History.{Came, OrderEvent, Asked, accepted, asks_of, entry_at, handled, issued, outstanding}
use Rattle.market_law.specs.declared.choice.Choice.{Choice}
use Rattle.market_law.specs.Machine.{Machine}
use Rattle.market_law.specs.Run.{Move}
use Rattle.market_sim.specs.declared.event.SimEvent.{SimEvent}
use Rattle.market_sim.specs.declared.event.SimEvent.TheVariants as sims
use Rattle.market_sim.specs.Sim.{SimState, ReadsEvent, opening_sim, sim_step}
use Rattle.gate_law.specs.Settings.{Settings, has_port, port_of, terms}
use Rattle.gate_law.specs.Events.{Event, ClientUp, ClientMessage, ClientGone, ClientTick, PortUp, PortPacket, PortGone}
use Rattle.gate_law.specs.Events.{PortTick, LinkOut, Write, Close, Batch, History}
use Rattle.gate_law.specs.Lists.{Lists}
use Rattle.gate_law.specs.Sessions.{client_answer, port_state, stands_of}
use Rattle.gate_law.specs.After.{is_close, lists}
use Rattle.world_law.specs.Moves.{moves_by}

-- ---- a world

-- a packet on its way to the market, and what its message asks, if it has one
pub record Carried : Type 0 where
  pub bytes : List ℕ
  pub asks : Option Asked

-- a link with what is on its way, the oldest first
pub record Connection : Type 0 where
  pub link : ℕ
  pub to_market : List Carried
  pub to_core : List Packet

-- what came to a market's machine: what it asks, and the machine before it
pub record Arrival : Type 0 where
  pub asks : Asked
  pub before : Machine

pub record World : Type 0 where
  -- the gateway's events with their batches, the newest first
  pub history : History
  -- by the ports' numbers, like all that follows but the last
  pub markets : ℕ → SimState
  pub connections : ℕ → Option Connection
  -- how many connections the port has had: they are numbered from 1
  pub links : ℕ → ℕ
  -- what came to the market's machine and what it did by itself, the newest first
  pub moves : ℕ → List Move
  -- what came to it with what it asks, the newest first
  pub arrived : ℕ → List Arrival
  -- the greatest moment so far
  pub now : ℕ

abbrev pub opening_world : World
opening_world = record {
  history = [];
  markets = λ p. opening_sim;
  connections = λ p. None;
  links = λ p. 0;
  moves = λ p. [];
  arrived = λ p. [];
  now = 0;
}

pub data WorldStep : Type 0 where
  -- a client's event, or a tick
  Client : Event → WorldStep
  Connect : (port : ℕ) → WorldStep
  -- the oldest packet that is on its way is delivered; the market's choice, where its answer is free
  ToMarket : (port : ℕ) → Choice → WorldStep
  ToCore : (port : ℕ) → WorldStep
  -- a market does this by itself
  Act : (port : ℕ) → Choice → WorldStep
  -- a connection ends, and what is on its way is lost
  Lose : (port : ℕ) → WorldStep

-- ---- parts

-- of one port, and of the others as before
abbrev pub at_port : {A : Type 0} → ℕ → A → (ℕ → A) → ℕ → A
at_port p x f q = if q == p then x else f q

-- a connection comes, with the next number
abbrev pub connected : ℕ → World → World
connected p w = record w {
  links = at_port p (w.links p + 1) w.links;
  connections = at_port p (Some (record { link = w.links p + 1; to_market = []; to_core = [] })) w.connections;
  markets = at_port p (sim_step (w.markets p) sims.Up None).state w.markets;
}

-- it ends, with all that is on its way, and its market has no link
abbrev pub ended : ℕ → World → World
ended p w = record w {
  connections = at_port p None w.connections;
  markets = at_port p (sim_step (w.markets p) sims.Gone None).state w.markets;
}

abbrev pub with_connection : ℕ → Connection → World → World
with_connection p c w = record w { connections = at_port p (Some c) w.connections }

-- ---- the gateway steps an event

-- What the messages ask that an event sends to a port, one after another: all that is outstanding, where a packet
-- brings the port up; what a client's message asks that the client's session delivers. (No other event sends any.)
abbrev asks_by_app : Settings → ℕ → ℕ → Lists → Option AppMsg → List Asked
asks_by_app s client p v None = []
asks_by_app s client p v (Some app) =
    asks_of (terms s) p (entry_at (terms s) came v.turns) (accepted (terms s) v.turns) (issued client v.turns)
    (handled p v.turns)
  where
    came : OrderEvent
    came = Came client (message_fields app)
        (stands_of (port_state s (port_of s client) (v.port_calls (port_of s client))))

unfoldable pub asked_by_event : Settings → Event → Lists → ℕ → List Asked
asked_by_event s (ClientUp client link at) v p = []
asked_by_event s (ClientMessage client link at frame) v p = asks_by_app s client p v
    (client_answer s client (v.client_calls client) (at, OnMessage frame)).app
asked_by_event s (ClientGone client link at) v p = []
asked_by_event s (ClientTick client at) v p = []
asked_by_event s (PortUp q link at) v p = []
asked_by_event s (PortPacket q link at packet) v p = outstanding (terms s) p v.turns
asked_by_event s (PortGone q link at) v p = []
asked_by_event s (PortTick q at) v p = []

abbrev pub next_asked : List Asked → Option Asked
next_asked [] = None
next_asked (a ∷ asks) = Some a

-- the packet, if it is for this link
abbrev pub for_link : Bool → List ℕ → List Asked → List Carried
for_link true bytes asks = record { bytes = bytes; asks = next_asked asks } ∷ []
for_link false bytes asks = []

-- the packets that a batch writes to a link, each with what it asks
abbrev pub carried : ℕ → List LinkOut → List Asked → List Carried
carried link [] asks = []
carried link (Close other ∷ outs) asks = carried link outs asks
carried link (Write other bytes ∷ outs) asks = for_link (other == link) bytes asks ++ carried link outs (drop 1 asks)

-- What a batch writes to a connection goes behind what is on its way. One that the batch closes is over.
abbrev pub told_connection : ℕ → List LinkOut → List Asked → Option Connection → World → World
told_connection p outs asks None w = w
told_connection p outs asks (Some c) w =
    if list_any (is_close (Some c.link)) outs then ended p w
    else with_connection p (record c { to_market = c.to_market ++ carried c.link outs asks }) w

-- the port that a batch is for, if there is one
abbrev pub told_port : Settings → Event → Lists → List LinkOut → Option ℕ → World → World
told_port s e v outs None w = w
told_port s e v outs (Some p) w = told_connection p outs (asked_by_event s e v p) (w.connections p) w

abbrev pub core_steps : Settings → Event → Batch → World → World
core_steps s e b w = told_port s e (lists s w.history) b.port_out b.port
    (record w { history = record { event = e; batch = b } ∷ w.history })

-- ---- a market steps an event

-- what a market says goes behind what is on its way to the gateway
abbrev pub goes_out : List Packet → Option Connection → Option Connection
goes_out packets None = None
goes_out packets (Some c) = Some (record c { to_core = c.to_core ++ packets })

abbrev pub arrived_with : Option Asked → List Move → Machine → List Arrival → List Arrival
arrived_with None moves m earlier = earlier
arrived_with (Some a) [] m earlier = earlier
arrived_with (Some a) (move ∷ moves) m earlier = record { asks = a; before = m } ∷ earlier

-- `read` is what is read of the payload of its packet, `asks` what that asks
abbrev pub market_steps : ℕ → SimEvent → Option Inbound → Option Asked → World → World
market_steps p e read asks w = record w {
  markets = at_port p (sim_step (w.markets p) e read).state w.markets;
  connections = at_port p (goes_out (sim_step (w.markets p) e read).packets (w.connections p)) w.connections;
  moves = at_port p (moves_by (w.markets p) e read ++ w.moves p) w.moves;
  arrived = at_port p (arrived_with asks (moves_by (w.markets p) e read) (w.markets p).book (w.arrived p)) w.arrived;
}

-- ---- which steps can be taken, and the event that the gateway gets

-- a client's event, or a tick
abbrev pub is_clients : Event → Bool
is_clients (ClientUp client link at) = true
is_clients (ClientMessage client link at frame) = true
is_clients (ClientGone client link at) = true
is_clients (ClientTick client at) = true
is_clients (PortUp p link at) = false
is_clients (PortPacket p link at packet) = false
is_clients (PortGone p link at) = false
is_clients (PortTick p at) = true

abbrev pub moment_of : Event → ℕ
moment_of (ClientUp client link at) = at
moment_of (ClientMessage client link at frame) = at
moment_of (ClientGone client link at) = at
moment_of (ClientTick client at) = at
moment_of (PortUp p link at) = at
moment_of (PortPacket p link at packet) = at
moment_of (PortGone p link at) = at
moment_of (PortTick p at) = at

-- the gateway steps an event, and gives some batch
pub record CoreGets (s : Settings) (e : Event) (w after : World) : Type 0 where
  pub batch : Batch
  pub is_after : after ≡ core_steps s e batch w

-- a packet, in bytes, is delivered to a market, which reads it
pub record MarketGets (p : ℕ) (x : Carried) (choice : Choice) (w after : World) : Type 0 where
  pub packet : Packet
  pub is_packet : packet_bytes packet ≡ x.bytes
  pub are_bytes : list_all is_byte packet.payload ≡ true
  pub read : Option Inbound
  pub is_read : ReadsEvent (sims.Packet packet choice) read
  pub is_after : after ≡ market_steps p (sims.Packet packet choice) read x.asks w

-- ---- a step is one of these; one that can't be taken changes nothing

abbrev pub ConnectOf : Settings → ℕ → Option Connection → World → World → Type 0
ConnectOf s p None w after = CoreGets s (PortUp p (w.links p + 1) w.now) (connected p w) after
ConnectOf s p (Some c) w after = after ≡ w

abbrev pub DeliversToMarket : ℕ → Choice → Connection → List Carried → World → World → Type 0
DeliversToMarket p choice c [] w after = after ≡ w
DeliversToMarket p choice c (x ∷ rest) w after =
    MarketGets p x choice (with_connection p (record c { to_market = rest }) w) after

abbrev pub ToMarketOf : ℕ → Choice → Option Connection → World → World → Type 0
ToMarketOf p choice None w after = after ≡ w
ToMarketOf p choice (Some c) w after = DeliversToMarket p choice c c.to_market w after

abbrev pub DeliversToCore : Settings → ℕ → Connection → List Packet → World → World → Type 0
DeliversToCore s p c [] w after = after ≡ w
DeliversToCore s p c (packet ∷ rest) w after =
    CoreGets s (PortPacket p c.link w.now packet) (with_connection p (record c { to_core = rest }) w) after

abbrev pub ToCoreOf : Settings → ℕ → Option Connection → World → World → Type 0
ToCoreOf s p None w after = after ≡ w
ToCoreOf s p (Some c) w after = DeliversToCore s p c c.to_core w after

abbrev pub LoseOf : Settings → ℕ → Option Connection → World → World → Type 0
LoseOf s p None w after = after ≡ w
LoseOf s p (Some c) w after = CoreGets s (PortGone p c.link w.now) (ended p w) after

-- a client's event or a tick, with its own moment
abbrev pub ClientOf : Settings → Event → Bool → World → World → Type 0
ClientOf s e false w after = after ≡ w
ClientOf s e true w after = CoreGets s e (record w { now = later w.now (moment_of e) }) after

-- a step on a port, where the settings have it
abbrev pub ForPort : Bool → Type 0 → World → World → Type 0
ForPort true does w after = does
ForPort false does w after = after ≡ w

-- what a step makes of a world
abbrev pub Happens : Settings → WorldStep → World → World → Type 0
Happens s (Client e) w after = ClientOf s e (is_clients e) w after
Happens s (Connect p) w after = ForPort (has_port s p) (ConnectOf s p (w.connections p) w after) w after
Happens s (ToMarket p choice) w after =
    ForPort (has_port s p) (ToMarketOf p choice (w.connections p) w after) w after
Happens s (ToCore p) w after = ForPort (has_port s p) (ToCoreOf s p (w.connections p) w after) w after
Happens s (Act p choice) w after =
    ForPort (has_port s p) (after ≡ market_steps p (sims.Act choice) None None w) w after
Happens s (Lose p) w after = ForPort (has_port s p) (LoseOf s p (w.connections p) w after) w after

-- these steps, the newest first, lead from the opening world to this one
abbrev pub LeadsTo : Settings → List WorldStep → World → Type 0
LeadsTo s [] w = w ≡ opening_world
LeadsTo s (step ∷ before) w = (earlier : World) × LeadsTo s before earlier × Happens s step earlier w
