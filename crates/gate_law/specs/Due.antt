-- What an event gives, by the lists so far: each part of its batch.
use Rattle.std.specs.Prelude.{◌≡◌, ℕ, List, [], ◌∷◌, ◌++◌, Option, Some, None, if◌then◌else◌}
use Rattle.soup_session.specs.declared.port_fault.PortFault.{PortFault}
use Rattle.fix_fields.specs.Field.{Message}
use Rattle.gate_law.specs.Settings.{Settings, port_of}
use Rattle.gate_law.specs.Events.{Event, ClientUp, ClientMessage, ClientGone, ClientTick, PortUp, PortPacket, PortGone}
use Rattle.gate_law.specs.Events.{PortTick, LinkOut, Close, Batch, is_for_client, is_for_port}
use Rattle.gate_law.specs.Lists.{Lists}
use Rattle.gate_law.specs.Sessions.{client_outs, client_reports, port_outs, to_client, to_port}
use Rattle.gate_law.specs.Outcome.{LinkMove, Stays, Comes, Goes, Refused, Outcome, outcome, addressee}
use Rattle.gate_law.specs.After.{client_moved, port_moved}

-- a new link beside a current one is closed
abbrev refused : LinkMove → List LinkOut
refused Stays = []
refused (Comes link) = []
refused Goes = []
refused (Refused link) = Close link ∷ []

-- what the client's session says to its calls, on its link
abbrev pub to_client_of : Settings → Outcome → Lists → List LinkOut
to_client_of s o v =
    refused o.client_link
    ++ to_client s o.client ((client_moved o.client o.client_link v).client_link o.client)
    (client_outs s o.client (v.client_calls o.client) o.client_calls)

-- and the port's
abbrev pub to_port_of : Settings → Outcome → Lists → List LinkOut
to_port_of s o v =
    refused o.port_link
    ++ to_port ((port_moved o.port o.port_link v).port_link o.port)
    (port_outs s o.port (v.port_calls o.port) o.port_calls)

-- each body as it is issued, with its number
abbrev pub reports_of : Settings → Outcome → Lists → List Message
reports_of s o v = client_reports s o.client (v.client_calls o.client) o.client_calls

abbrev pub due_to_client : Settings → Event → Batch → Lists → List LinkOut
due_to_client s e b v = to_client_of s (outcome s e b v) v

abbrev pub due_to_port : Settings → Event → Batch → Lists → List LinkOut
due_to_port s e b v = to_port_of s (outcome s e b v) v

abbrev pub due_reports : Settings → Event → Batch → Lists → List Message
due_reports s e b v = reports_of s (outcome s e b v) v

-- a packet's fault is its session's; that of a payload is the order level's to judge
abbrev pub due_fault : Settings → Event → Batch → Lists → Option PortFault
due_fault s e b v = (outcome s e b v).fault

-- ---- whom the batch names: just those for whom there is something

abbrev pub client_named : Event → Batch → ℕ
client_named (ClientUp client link at) b = client
client_named (ClientMessage client link at frame) b = client
client_named (ClientGone client link at) b = client
client_named (ClientTick client at) b = client
client_named other b = addressee b

-- a port of its own; a client's message is for the client's port
abbrev pub port_named : Settings → Event → ℕ
port_named s (ClientUp client link at) = port_of s client
port_named s (ClientMessage client link at frame) = port_of s client
port_named s (ClientGone client link at) = port_of s client
port_named s (ClientTick client at) = port_of s client
port_named s (PortUp p link at) = p
port_named s (PortPacket p link at packet) = p
port_named s (PortGone p link at) = p
port_named s (PortTick p at) = p

abbrev pub due_client : Event → Batch → Option ℕ
due_client e b = if is_for_client b then Some (client_named e b) else None

abbrev pub due_port : Settings → Event → Batch → Option ℕ
due_port s e b = if is_for_port b then Some (port_named s e) else None

-- The batch is the one that the sessions, the order level and the links give.
pub record Gives (s : Settings) (e : Event) (b : Batch) (v : Lists) : Type 0 where
  pub client_out : b.client_out ≡ due_to_client s e b v
  pub reports : b.reports ≡ due_reports s e b v
  pub port_out : b.port_out ≡ due_to_port s e b v
  pub fault : b.fault ≡ due_fault s e b v
  pub client : b.client ≡ due_client e b
  pub port : b.port ≡ due_port s e b
