-- What a line of a script comes to: its events, for a core and links that are so, and the links then.
use Rattle.std.specs.Prelude.{◌≡◌, ℕ, ◌⊎◌, false, List, [], ◌∷◌, ◌++◌, map, Ok, ⊤}
use Rattle.script_lines.specs.ouch_codec.Decoding.{Decodes}
use Rattle.soup_packets.specs.declared.packet.Packet.{Packet}
use Rattle.script_lines.specs.Names.{client_number, port_number}
use Rattle.script_lines.specs.declared.port.Port.{Port}
use Rattle.script_lines.specs.declared.line.Line.{Line}
use Rattle.script_lines.specs.declared.line.Line.TheVariants as line
use Rattle.script_lines.specs.Lines.{SaysLine}
use Rattle.script_lines.specs.Understood.{is_understood}
use Rattle.gate_journal.specs.gate_law.Events as law
use Rattle.gate_events.specs.declared.event.Event.{Event}
use Rattle.gate_core.specs.Core.{CoreState}
use Rattle.script_steps.specs.declared.events.Links.{Links}
use Rattle.script_steps.specs.Events.{IsOne, IsMessageEvent, HasFrames, HasPackets, ClientGoes, PortGoes, IsNextClient}
use Rattle.script_steps.specs.Events.{IsNextPort, client_link, port_link}

-- moment 0, and no link yet
abbrev pub NoLinks : Links → Type 0
NoLinks links =
    (links.at ≡ 0) × (map (λ link. link.number) links.clients ≡ 0 ∷ 0 ∷ 0 ∷ [])
    × (map (λ link. link.number) links.ports ≡ 0 ∷ 0 ∷ [])

-- a packet on a port's last link
abbrev pub IsPacket : Port → Packet → Links → List Event → Type 0
IsPacket port packet links events = IsOne (law.PortPacket (port_number port)
    (port_link links.ports port) links.at packet) events

abbrev pub Becomes : CoreState → Line → Links → Links → List Event → Type 0
Becomes core line.Empty old new events = (events ≡ []) × (new ≡ old)
Becomes core (line.At moment) old new events = (events ≡ []) × (new ≡ record old { at = moment })
Becomes core (line.ClientUp client) old new events =
    IsOne (law.ClientUp (client_number client) (client_link new.clients client) old.at) events
    × ClientGoes client IsNextClient old.clients new.clients × (new.ports ≡ old.ports) × (new.at ≡ old.at)
Becomes core (line.ClientGone client) old new events =
    IsOne (law.ClientGone (client_number client) (client_link old.clients client) old.at) events × (new ≡ old)
Becomes core (line.ClientTick client) old new events = IsOne (law.ClientTick (client_number client) old.at) events
    × (new ≡ old)
Becomes core (line.ClientMessage client fields) old new events =
    IsMessageEvent core client fields (client_link old.clients client) old.at events × (new ≡ old)
Becomes core (line.ClientBytes client bytes) old new events =
    HasFrames client bytes.items old.at old.clients new.clients events × (new.ports ≡ old.ports) × (new.at ≡ old.at)
Becomes core (line.PortUp port) old new events =
    IsOne (law.PortUp (port_number port) (port_link new.ports port) old.at) events
    × PortGoes port IsNextPort old.ports new.ports × (new.clients ≡ old.clients) × (new.at ≡ old.at)
Becomes core (line.PortGone port) old new events =
    IsOne (law.PortGone (port_number port) (port_link old.ports port) old.at) events × (new ≡ old)
Becomes core (line.PortTick port) old new events = IsOne (law.PortTick (port_number port) old.at) events × (new ≡ old)
Becomes core (line.PortEnd port) old new events = IsPacket port (record { kind = 90; payload = [] }) old events
    × (new ≡ old)
Becomes core (line.PortLogin port session number) old new events =
    IsPacket port (record { kind = 65; payload = session ++ number }) old events × (new ≡ old)
Becomes core (line.PortBytes port bytes) old new events =
    HasPackets port bytes.items old.at old.ports new.ports events × (new.clients ≡ old.clients) × (new.at ≡ old.at)
Becomes core (line.Market port message) old new events =
    ((payload : List ℕ) × IsPacket port (record { kind = 83; payload = payload }) old events
    × Decodes payload (Ok message)) × (new ≡ old)

-- The line has a message or bytes, and may stop a script though its words are right: a client's message may be too
-- long for a frame, and of bytes a reader may read no more. (No message of the market is too long for a packet; that
-- isn't shown.) No other line stops one.
abbrev pub MayStop : Line → Type 0
MayStop (line.ClientMessage client fields) = ⊤
MayStop (line.ClientBytes client bytes) = ⊤
MayStop (line.PortBytes port bytes) = ⊤
MayStop (line.Market port message) = ⊤
MayStop other = ⊥

-- The text of a line may stop a script: it is none of the tables' lines, or its line has a message or bytes.
abbrev pub MayStopAt : List ℕ → Type 0
MayStopAt text = (is_understood text ≡ false) ⊎ ((said : Line) × SaysLine text said × MayStop said)
