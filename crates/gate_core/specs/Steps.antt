-- What a step on the parts gives, and what it leaves.
use Rattle.std.specs.Prelude.{◌≡◌, ℕ, ◌+◌, ◌≤◌, ◌<◌, ◌&&◌, true, false, List, [], ◌∷◌, length, map, Option, Some}
use Rattle.std.specs.Prelude.{None}
use Rattle.fix_types.specs.declared.application.AppMsg.{AppMsg}
use Rattle.ouch_codec.specs.Inbound.{inbound_bytes}
use Rattle.ouch_codec.specs.Values.{decoded}
use Rattle.session_law.specs.Frames.{told_of_out}
use Rattle.gate_sessions.specs.session_writing.declared.output.SessionOut.{SessionOut}
use Rattle.gate_sessions.specs.session_writing.Written.{told_bytes}
use Rattle.session_law.specs.Runs.{OnMessage}
use Rattle.soup_session.specs.declared.port_turn.PortOut.{PortOut}
use Rattle.gate_law.specs.soup_packets.declared.packet.Packet.{Packet}
use Rattle.fix_types.specs.Application.{body_fields, message_fields}
use Rattle.soup_session.specs.declared.port_fault.PortFault.{PortFault}
use Rattle.soup_session.specs.Faults.{fault_number}
use Rattle.soup_session.specs.States.{is_up}
use Rattle.soup_session.specs.Table as table
use Rattle.fix_fields.specs.Field.{Message}
use Rattle.gate_sessions.specs.order_law.Messages.{body_of}
use Rattle.gate_sessions.specs.order_law.History as orders
use Rattle.gate_sessions.specs.order_law.Headline.{Headline}
use Rattle.order_core.specs.State as core
use Rattle.order_core.specs.order_machine.Runs.{NumbersLeft}
use Rattle.order_core.specs.declared.outcome.CoreOut.{CoreOut}
use Rattle.gate_law.specs.Settings.{Settings, terms, port_of, client_name, has_client, has_port}
use Rattle.gate_law.specs.Events.{Event, Batch, LinkOut, is_the_number}
use Rattle.gate_law.specs.Lists.{Lists, client_called, port_called, turned, client_called_all, port_called_all}
use Rattle.gate_law.specs.Sessions.{client_answer, port_answer, port_state, stands_of, issues, sends, client_outs}
use Rattle.gate_law.specs.Sessions.{client_reports, port_outs, to_port}
use Rattle.gate_law.specs.After.{lists_after}
use Rattle.gate_law.specs.Due.{Gives}
use Rattle.gate_law.specs.Promises.{Asks}
use Rattle.gate_sessions.specs.declared.issuing.Issues.{Issues}
use Rattle.gate_sessions.specs.Links.{outs_told_on}
use Rattle.gate_events.specs.Seen.{link_out_seen}
use Rattle.gate_sessions.specs.Lines.{NextWithin, ClientsStaySettled, PortsStaySettled}
use Rattle.gate_core.specs.declared.parts.Parts.{Parts}
use Rattle.gate_core.specs.declared.parts.client_messages.Asked.{Asked}
use Rattle.gate_core.specs.declared.parts.port_payloads.Judged.{Judged}
use Rattle.gate_core.specs.declared.parts.port_payloads.Judged.TheVariants as judgements
use Rattle.gate_core.specs.State.{ArePartsOf, AreOpenOnLinks}

-- what is known of the parts before a step: they are what the lists leave, links are current just where sessions are
-- open, and there were fewer turns than are ever made
pub record Ready {S H : Type 0} (s : Settings) (v : Lists) (g : Parts S H) : Type 0 where
  pub parts : ArePartsOf s v g
  pub linked : AreOpenOnLinks s v
  pub few : NumbersLeft v.turns

-- What a step promises: the batch is the one that is given, the messages that go to the market are those that are to,
-- the order level keeps its headline, and the parts are what the lists are then.
pub record Stepped {S H : Type 0} (s : Settings) (e : Event) (b : Batch) (v : Lists) (g : Parts S H) : Type 0 where
  pub gives : Gives s e b v
  pub asks : Asks s e b v
  pub orders : Headline (terms s) v.turns → Headline (terms s) (lists_after s e b v).turns
  pub parts : ArePartsOf s (lists_after s e b v) g

-- A step gives at most so many numbers, and a port wants one packet more at most; what the parts are put back to stays.
-- All of it whatever the result is.
pub record Grows {S H : Type 0} (numbers packets : ℕ) (old new : Parts S H) : Type 0 where
  pub clients : length new.clients.lines.items ≡ length old.clients.lines.items
  pub ports : length new.ports.lines.items ≡ length old.ports.lines.items
  pub client_ports : new.client_ports.items ≡ old.client_ports.items
  pub served : core.core_clients new.orders ≡ core.core_clients old.orders
  pub issued : core.core_numbers new.orders ≤ core.core_numbers old.orders + numbers
  pub next : (n : ℕ) → NextWithin n old.ports.lines.items → NextWithin (n + packets) new.ports.lines.items
  pub clients_settled : ClientsStaySettled old.clients new.clients
  pub ports_settled : PortsStaySettled old.ports new.ports
  pub orders_settled : new.orders.settled ≡ old.orders.settled

-- ---- a message that a client's session delivered

-- the order level's turn of it
abbrev pub orders_turn_of : Settings → ℕ → AppMsg → CoreOut → Lists → orders.OrderTurn
orders_turn_of s client message out v = record {
  event = orders.Came client (message_fields message)
      (stands_of (port_state s (port_of s client) (v.port_calls (port_of s client))));
  client = client;
  bodies = map body_fields out.bodies.items;
  sends = map inbound_bytes out.sends.items;
  fault = None;
}

-- messages are there only where the port is up
abbrev pub OnlyWhileUp : Settings → ℕ → Lists → List (List ℕ) → Type 0
OnlyWhileUp s p v messages = is_up (port_state s p (v.port_calls p)) ≡ false → messages ≡ []

-- what the order level's turn leaves
pub record IsTurn {S H : Type 0} (s : Settings) (client : ℕ) (message : AppMsg) (out : CoreOut) (v : Lists)
    (new : Parts S H) : Type 0 where
  pub parts : ArePartsOf s (turned (Some (orders_turn_of s client message out v)) v) new
  pub headline : Headline (terms s) (orders_turn_of s client message out v ∷ v.turns)
  pub sends : OnlyWhileUp s (port_of s client) v (map inbound_bytes out.sends.items)

-- bodies are issued to a client, in order
pub record IsIssued {S H : Type 0} (s : Settings) (client at : ℕ) (bodies : List Message) (out : Issues) (v : Lists)
    (new : Parts S H) : Type 0 where
  pub parts : ArePartsOf s (client_called_all client (issues at bodies) v) new
  pub outs : map link_out_seen out.outs.items ≡ outs_told_on (v.client_link client)
      (map (told_of_out s.comp (client_name s client))
      (client_outs s client (v.client_calls client) (issues at bodies)))
  pub reports : out.reports.items ≡ client_reports s client (v.client_calls client) (issues at bodies)
  pub bodies_are : map body_of out.reports.items ≡ bodies

-- messages are sent on a port, in order
pub record IsSent {S H : Type 0} (s : Settings) (p at : ℕ) (messages : List (List ℕ)) (outs : List LinkOut) (v : Lists)
    (new : Parts S H) : Type 0 where
  pub parts : ArePartsOf s (port_called_all p (sends at messages) v) new
  pub outs_are : outs ≡ to_port (v.port_link p) (port_outs s p (v.port_calls p) (sends at messages))

-- ---- a turn with what it causes

-- the lists after a turn: its bodies are issued, and then its messages sent
abbrev pub after_turn : Settings → ℕ → ℕ → orders.OrderTurn → Lists → Lists
after_turn s client at t v = port_called_all (port_of s client) (sends at t.sends)
    (client_called_all client (issues at t.bodies) (turned (Some t) v))

-- What a message that a client's session delivered comes to: `out` has what the client's link is told, and what its
-- port's link is.
pub record IsAsked {S H : Type 0} (s : Settings) (client at : ℕ) (message : AppMsg) (out : Asked) (v : Lists)
    (new : Parts S H) : Type 0 where
  pub core : CoreOut
  pub headline : Headline (terms s) (orders_turn_of s client message core v ∷ v.turns)
  pub only : OnlyWhileUp s (port_of s client) v (map inbound_bytes core.sends.items)
  pub outs : map link_out_seen out.issues.outs.items ≡ outs_told_on (v.client_link client)
      (map (told_of_out s.comp (client_name s client))
      (client_outs s client (v.client_calls client) (issues at (map body_fields core.bodies.items))))
  pub reports : out.issues.reports.items ≡ client_reports s client (v.client_calls client)
      (issues at (map body_fields core.bodies.items))
  pub bodies_are : map body_of out.issues.reports.items ≡ map body_fields core.bodies.items
  pub port_outs_are : map link_out_seen out.port_outs.items ≡ to_port (v.port_link (port_of s client))
      (port_outs s (port_of s client) (v.port_calls (port_of s client))
      (sends at (map inbound_bytes core.sends.items)))
  pub parts : ArePartsOf s (after_turn s client at (orders_turn_of s client message core v) v) new

-- ---- a frame on a client's current link

-- What is known once the client's session had it: what it delivers and says is its table's, and the parts have the
-- call.
pub record AfterFrame {S H : Type 0} (s : Settings) (n link at : ℕ) (frame : Message) (app : Option AppMsg)
    (said : List SessionOut)
    (v : Lists) (g : Parts S H) : Type 0 where
  pub on : (has_client s n && is_the_number link (v.client_link n)) ≡ true
  pub app_is : (client_answer s n (v.client_calls n) (at, OnMessage frame)).app ≡ app
  pub said_is : map told_bytes said ≡ map (told_of_out s.comp (client_name s n))
      (client_answer s n (v.client_calls n) (at, OnMessage frame)).outs
  pub linked : AreOpenOnLinks s v
  pub few : NumbersLeft v.turns
  pub parts : ArePartsOf s (client_called n (at, OnMessage frame) v) g

-- ---- a payload that a port's session delivered

-- the order level's turn of it
abbrev pub heard_turn : ℕ → List ℕ → ℕ → List Message → Option ℕ → orders.OrderTurn
heard_turn p payload client bodies fault = record {
  event = orders.Heard p (decoded payload);
  client = client;
  bodies = bodies;
  sends = [];
  fault = fault;
}

-- a client's number by its place, 0 for none
abbrev pub client_number_at : Option ℕ → ℕ
client_number_at None = 0
client_number_at (Some place) = place + 1

-- it is told to the client at a place, or to nobody, as there are bodies or not
pub record PayloadIsTold {S H : Type 0} (s : Settings) (p : ℕ) (payload : List ℕ) (client : Option ℕ)
    (bodies : List Message)
    (v : Lists) (new : Parts S H) : Type 0 where
  pub parts : ArePartsOf s (turned (Some (heard_turn p payload (client_number_at client) bodies None)) v) new
  pub headline : Headline (terms s) (heard_turn p payload (client_number_at client) bodies None ∷ v.turns)
  pub nobody : client ≡ None → bodies ≡ []
  pub nothing : bodies ≡ [] → client ≡ None

-- or it is at fault
pub record IsFaulty {S H : Type 0} (s : Settings) (p : ℕ) (payload : List ℕ) (fault : PortFault) (v : Lists)
    (new : Parts S H) : Type 0 where
  pub parts : ArePartsOf s (turned (Some (heard_turn p payload 0 [] (Some (fault_number fault)))) v) new
  pub headline : Headline (terms s) (heard_turn p payload 0 [] (Some (fault_number fault)) ∷ v.turns)

abbrev pub PayloadIsJudged : {S H : Type 0} → Settings → ℕ → List ℕ → Judged → Lists → Parts S H → Type 0
PayloadIsJudged s p payload (judgements.Told client bodies) v new = PayloadIsTold s p payload client
    (map body_fields bodies.items) v new
PayloadIsJudged s p payload (judgements.Faulty fault) v new = IsFaulty s p payload fault v new

-- who is told stands at a place
abbrev pub IsWithin : ℕ → Judged → Type 0
IsWithin count (judgements.Told None bodies) = Unit {0}
IsWithin count (judgements.Told (Some place) bodies) = place < count
IsWithin count (judgements.Faulty fault) = Unit {0}

-- What is known once the port's session had a packet: what it delivers and says is its table's, and the parts have
-- the call.
pub record AfterPacket {S H : Type 0} (s : Settings) (p link at : ℕ) (packet : Packet) (payload : Option (List ℕ))
    (said : List PortOut) (v : Lists) (g : Parts S H) : Type 0 where
  pub on : (has_port s p && is_the_number link (v.port_link p)) ≡ true
  pub payload_is : (port_answer s p (v.port_calls p) (table.OnPacket packet at)).payload ≡ payload
  pub said_is : said ≡ (port_answer s p (v.port_calls p) (table.OnPacket packet at)).outs
  pub linked : AreOpenOnLinks s v
  pub few : NumbersLeft v.turns
  pub parts : ArePartsOf s (port_called p (table.OnPacket packet at) v) g
