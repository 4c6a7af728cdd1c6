-- What an event comes to, with its batch and after the lists so far: which calls the sessions get, in order, what
-- becomes of a link, and the turn of the order level. Bodies, messages and the fault of a payload are read off the
-- batch: the order level's own promise judges them.
--
-- A link is current from its Up, where that didn't close it, to its Gone, or to where the core closes it. Which
-- events do nothing is this gateway's own: an event of a number that the settings don't have, and an event of a link
-- that isn't the current one.
use Rattle.std.specs.Prelude.{ℕ, ◌==◌, Bool, true, false, ◌&&◌, List, [], ◌∷◌, map, drop, Option, Some, None, unwrap_or}
use Rattle.std.specs.Prelude.{option_map, if◌then◌else◌, slice_index}
use Rattle.std.specs.List.{flat_map}
use Rattle.session_law.specs.fix_types.declared.application.AppMsg.{AppMsg}
use Rattle.soup_packets.specs.declared.packet.Packet.{Packet}
use Rattle.order_law.specs.ouch_codec.Values.{decoded}
use Rattle.session_law.specs.fix_types.Application.{message_fields}
use Rattle.soup_session.specs.declared.port_fault.PortFault.{PortFault}
use Rattle.soup_session.specs.Faults.{fault_number}
use Rattle.soup_session.specs.Table as calls
use Rattle.session_law.specs.Runs.{Timed, OnLink, OnMessage, OnTick}
use Rattle.fix_fields.specs.Field.{Message}
use Rattle.order_law.specs.Messages.{body_of}
use Rattle.order_law.specs.History as orders
use Rattle.order_law.specs.History.{Heard}
use Rattle.gate_law.specs.Settings.{Settings, has_client, has_port, port_of}
use Rattle.gate_law.specs.Events.{Event, ClientUp, ClientMessage, ClientGone, ClientTick, PortUp, PortPacket, PortGone}
use Rattle.gate_law.specs.Events.{PortTick, LinkOut, Write, Close, Batch, is_the_number}
use Rattle.gate_law.specs.Lists.{Lists}
use Rattle.gate_law.specs.Sessions.{client_answer, port_answer, port_state, stands_of, fault_in, issues, sends}

-- ---- what is read off a batch

-- the payload of an unsequenced packet: behind its length of two bytes and its type, `U`
-- (SoupBinTCP 3.00, "Unsequenced Data Packet")
abbrev pub message_in : LinkOut → List (List ℕ)
message_in (Close link) = []
message_in (Write link bytes) = if slice_index bytes 2 == 85 then drop 3 bytes ∷ [] else []

-- the messages to the market, in order
abbrev pub messages : Batch → List (List ℕ)
messages b = flat_map message_in b.port_out

-- the reports and rejects, without what a session writes round them
abbrev pub bodies : Batch → List Message
bodies b = map body_of b.reports

-- whom they are for, 0 for nobody
abbrev pub addressee : Batch → ℕ
addressee b = unwrap_or b.client 0

-- ---- an outcome

-- what becomes of the link of a client or a port
pub data LinkMove : Type 0 where
  Stays : LinkMove
  -- this one is current
  Comes : (link : ℕ) → LinkMove
  Goes : LinkMove
  -- another is current, and this new one is closed
  Refused : (link : ℕ) → LinkMove

pub record Outcome : Type 0 where
  -- a client, 0 for none, what becomes of its link, and its session's calls
  pub client : ℕ
  pub client_link : LinkMove
  pub client_calls : List Timed
  pub turn : Option orders.OrderTurn
  -- and a port
  pub port : ℕ
  pub port_link : LinkMove
  pub port_calls : List calls.PortCall
  pub fault : Option PortFault

abbrev pub nothing : Outcome
nothing = record {
  client = 0;
  client_link = Stays;
  client_calls = [];
  turn = None;
  port = 0;
  port_link = Stays;
  port_calls = [];
  fault = None;
}

-- one side alone
abbrev pub of_client : ℕ → LinkMove → List Timed → Outcome
of_client client move made = record nothing { client = client; client_link = move; client_calls = made }

abbrev pub of_port : ℕ → LinkMove → List calls.PortCall → Outcome
of_port p move made = record nothing { port = p; port_link = move; port_calls = made }

-- ---- a link comes up: the session is told, or, where another is current, the new one is closed

abbrev pub client_up : ℕ → ℕ → ℕ → Option ℕ → Outcome
client_up client link at None = of_client client (Comes link) ((at, OnLink true) ∷ [])
client_up client link at (Some current) = if current == link then nothing else of_client client (Refused link) []

-- an ended or faulted port's session closes it at once
abbrev pub port_up : ℕ → ℕ → ℕ → Option ℕ → Outcome
port_up p link at None = of_port p (Comes link) (calls.OnUp at ∷ [])
port_up p link at (Some current) = if current == link then nothing else of_port p (Refused link) []

-- ---- a client's frame

-- What the session delivers is a turn of the order level: its bodies are issued to the client, and its messages sent
-- on the client's port. (FIX 4.4 Volume 4, "New Order - Single" and the requests.)
abbrev pub asked : Settings → ℕ → ℕ → Message → Batch → Lists → AppMsg → Outcome
asked s client at frame b v app = record {
  client = client;
  client_link = Stays;
  client_calls = (at, OnMessage frame) ∷ issues at (bodies b);
  turn = Some (record {
    event = orders.Came client (message_fields app)
        (stands_of (port_state s (port_of s client) (v.port_calls (port_of s client))));
    client = client;
    bodies = bodies b;
    sends = messages b;
    fault = None;
  });
  port = port_of s client;
  port_link = Stays;
  port_calls = sends at (messages b);
  fault = None;
}

abbrev pub by_app : Settings → ℕ → ℕ → Message → Batch → Lists → Option AppMsg → Outcome
by_app s client at frame b v None = of_client client Stays ((at, OnMessage frame) ∷ [])
by_app s client at frame b v (Some app) = asked s client at frame b v app

-- ---- a port's packet

-- A payload that the session delivers is a turn of the order level, which hears the message that it is decoded as:
-- its bodies are issued to the client that they are for, or it is at fault, and the session is told. (OUCH 4.2,
-- "Outbound Messages".)
abbrev pub by_fault : ℕ → ℕ → Packet → Batch → Option PortFault → Outcome
by_fault p at packet b None = record (of_port p Stays (calls.OnPacket packet at ∷ [])) {
  client = addressee b;
  client_calls = issues at (bodies b);
}
by_fault p at packet b (Some fault) = record (of_port p Stays
    (calls.OnPacket packet at ∷ calls.Fail fault ∷ [])) { fault = Some fault }

abbrev pub told_outcome : ℕ → ℕ → Packet → Batch → List ℕ → Outcome
told_outcome p at packet b payload = record (by_fault p at packet b b.fault) {
  turn = Some (record {
    event = Heard p (decoded payload);
    client = addressee b;
    bodies = bodies b;
    sends = [];
    fault = option_map fault_number b.fault;
  });
}

-- of any other packet the port may come up, and is then sent messages; or it is the session's fault
abbrev pub by_payload : ℕ → ℕ → Packet → Batch → calls.PortAnswer → Option (List ℕ) → Outcome
by_payload p at packet b a None = record (of_port p Stays
    (calls.OnPacket packet at ∷ sends at (messages b))) { fault = fault_in a.after.state }
by_payload p at packet b a (Some payload) = told_outcome p at packet b payload

-- ---- every event

-- its client or port is one of the settings'
abbrev pub is_known : Settings → Event → Bool
is_known s (ClientUp client link at) = has_client s client
is_known s (ClientMessage client link at frame) = has_client s client
is_known s (ClientGone client link at) = has_client s client
is_known s (ClientTick client at) = has_client s client
is_known s (PortUp p link at) = has_port s p
is_known s (PortPacket p link at packet) = has_port s p
is_known s (PortGone p link at) = has_port s p
is_known s (PortTick p at) = has_port s p

-- Of a link that isn't current nothing comes; any link may come up, and time passes without one.
abbrev pub is_current : Event → Lists → Bool
is_current (ClientMessage client link at frame) v = is_the_number link (v.client_link client)
is_current (ClientGone client link at) v = is_the_number link (v.client_link client)
is_current (PortPacket p link at packet) v = is_the_number link (v.port_link p)
is_current (PortGone p link at) v = is_the_number link (v.port_link p)
is_current other v = true

abbrev pub by_event : Settings → Event → Batch → Lists → Outcome
by_event s (ClientUp client link at) b v = client_up client link at (v.client_link client)
by_event s (ClientMessage client link at frame) b v = by_app s client at frame b v
    (client_answer s client (v.client_calls client) (at, OnMessage frame)).app
by_event s (ClientGone client link at) b v = of_client client Goes ((at, OnLink false) ∷ [])
by_event s (ClientTick client at) b v = of_client client Stays ((at, OnTick) ∷ [])
by_event s (PortUp p link at) b v = port_up p link at (v.port_link p)
by_event s (PortPacket p link at packet) b v = by_payload p at packet b
    (port_answer s p (v.port_calls p) (calls.OnPacket packet at))
    (port_answer s p (v.port_calls p) (calls.OnPacket packet at)).payload
by_event s (PortGone p link at) b v = of_port p Goes (calls.OnGone ∷ [])
by_event s (PortTick p at) b v = of_port p Stays (calls.OnTick at ∷ [])

-- whether the event does anything
abbrev pub is_stepped : Settings → Event → Lists → Bool
is_stepped s e v = is_known s e && is_current e v

abbrev pub outcome : Settings → Event → Batch → Lists → Outcome
outcome s e b v = if is_stepped s e v then by_event s e b v else nothing
