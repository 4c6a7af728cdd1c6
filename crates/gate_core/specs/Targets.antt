-- Whom the batch of an event may name, by the event and the orders alone.
use Rattle.std.specs.Prelude.{ℕ, Option, Some, None, if◌then◌else◌}
use Rattle.gate_law.specs.soup_packets.declared.packet.Packet.{Packet}
use Rattle.gate_law.specs.Settings.{Settings, has_client, has_port, port_of}
use Rattle.gate_law.specs.Events.{Event, ClientUp, ClientMessage, ClientGone, ClientTick, PortUp, PortPacket, PortGone}
use Rattle.gate_law.specs.Events.{PortTick}
use Rattle.gate_law.specs.Lists.{Lists}
use Rattle.gate_law.specs.Promises.{by_token}

-- a number that the settings have; nobody else is ever named
abbrev pub known_client : Settings → ℕ → Option ℕ
known_client s client = if has_client s client then Some client else None

abbrev pub known_port : Settings → ℕ → Option ℕ
known_port s p = if has_port s p then Some p else None

-- the port of a client that the settings have
abbrev pub clients_port : Settings → ℕ → Option ℕ
clients_port s client = if has_client s client then Some (port_of s client) else None

-- the client whose order the token of a packet's message leads to, whatever the packet is and whether or not it is
-- handled
abbrev pub payloads_client : Settings → ℕ → Packet → Lists → Option ℕ
payloads_client s p packet v = by_token s p (Some packet.payload) v

-- an event of a client is for it, a packet for the client of its order
abbrev pub client_for : Settings → Event → Lists → Option ℕ
client_for s (ClientUp client link at) v = known_client s client
client_for s (ClientMessage client link at frame) v = known_client s client
client_for s (ClientGone client link at) v = known_client s client
client_for s (ClientTick client at) v = known_client s client
client_for s (PortUp p link at) v = None
client_for s (PortPacket p link at packet) v = payloads_client s p packet v
client_for s (PortGone p link at) v = None
client_for s (PortTick p at) v = None

-- an event of a port is for it, a frame for the port of its client
abbrev pub port_for : Settings → Event → Option ℕ
port_for s (ClientUp client link at) = None
port_for s (ClientMessage client link at frame) = clients_port s client
port_for s (ClientGone client link at) = None
port_for s (ClientTick client at) = None
port_for s (PortUp p link at) = known_port s p
port_for s (PortPacket p link at packet) = known_port s p
port_for s (PortGone p link at) = known_port s p
port_for s (PortTick p at) = known_port s p
