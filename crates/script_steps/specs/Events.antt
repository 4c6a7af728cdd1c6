-- The events that a line is: on the last link of its client or port, at the script's moment.
use Rattle.std.specs.Prelude.{◌≡◌, ℕ, ◌+◌, ◌-◌, ◌^◌, min, List, [], ◌∷◌, ◌++◌, map, unwrap_or}
use Rattle.fix_fields.specs.Field.{Field, fields_text}
use Rattle.fix_framing.specs.Stream.{BytesLeave, Feeds}
use Rattle.soup_packets.specs.declared.packet.Packet.{Packet}
use Rattle.soup_packets.specs.Stream.{Fed}
use Rattle.script_lines.specs.declared.client.Client.{Client}
use Rattle.script_lines.specs.declared.client.Client.TheVariants as client
use Rattle.script_lines.specs.declared.port.Port.{Port}
use Rattle.script_lines.specs.declared.port.Port.TheVariants as port
use Rattle.script_lines.specs.Names.{client_number, port_number}
use Rattle.gate_journal.specs.gate_law.Events as law
use Rattle.gate_journal.specs.gate_law.Events.{History}
use Rattle.gate_journal.specs.gate_law.After.{lists}
use Rattle.gate_journal.specs.gate_law.Settings.{Settings}
use Rattle.gate_events.specs.declared.event.Event.{Event}
use Rattle.gate_events.specs.Seen.{event_seen}
use Rattle.gate_core.specs.Core.{CoreState, IsAfter}
use Rattle.gate_core.specs.Expected.{next_expected}
use Rattle.script_steps.specs.declared.links.ClientLink.{ClientLink}
use Rattle.script_steps.specs.declared.links.PortLink.{PortLink}
use Rattle.script_steps.specs.Frames.{script_frame}

-- the number of the last link of a client, by the list of all three; 0 before the first
abbrev pub client_link : List ClientLink → Client → ℕ
client_link (first ∷ second ∷ third ∷ others) client.First = first.number
client_link (first ∷ second ∷ third ∷ others) client.Second = second.number
client_link (first ∷ second ∷ third ∷ others) client.Third = third.number
client_link (first ∷ second ∷ []) c = 0
client_link (first ∷ []) c = 0
client_link [] c = 0

-- of a port, by the list of both
abbrev pub port_link : List PortLink → Port → ℕ
port_link (first ∷ second ∷ others) port.First = first.number
port_link (first ∷ second ∷ others) port.Second = second.number
port_link (first ∷ []) p = 0
port_link [] p = 0

-- these are just this one
abbrev pub IsOne : law.Event → List Event → Type 0
IsOne e events = map event_seen events ≡ e ∷ []

-- ---- links

-- a client's link goes so, and the others' stay as they were
abbrev pub ClientGoes : Client → (ClientLink → ClientLink → Type 0) → List ClientLink → List ClientLink → Type 0
ClientGoes client.First Goes (a ∷ b ∷ c ∷ []) (x ∷ y ∷ z ∷ []) = Goes a x × (y ≡ b) × (z ≡ c)
ClientGoes client.Second Goes (a ∷ b ∷ c ∷ []) (x ∷ y ∷ z ∷ []) = (x ≡ a) × Goes b y × (z ≡ c)
ClientGoes client.Third Goes (a ∷ b ∷ c ∷ []) (x ∷ y ∷ z ∷ []) = (x ≡ a) × (y ≡ b) × Goes c z
ClientGoes who Goes old new = ⊥

abbrev pub PortGoes : Port → (PortLink → PortLink → Type 0) → List PortLink → List PortLink → Type 0
PortGoes port.First Goes (a ∷ b ∷ []) (x ∷ y ∷ []) = Goes a x × (y ≡ b)
PortGoes port.Second Goes (a ∷ b ∷ []) (x ∷ y ∷ []) = (x ≡ a) × Goes b y
PortGoes who Goes old new = ⊥

-- the number after this one; the greatest stays
abbrev pub next_number : ℕ → ℕ
next_number number = min (number + 1) (2 ^ 64 - 1)

-- the next link, of which nothing was read
abbrev pub IsNextClient : ClientLink → ClientLink → Type 0
IsNextClient old new = (new.number ≡ next_number old.number) × BytesLeave [] new.framer

abbrev pub IsNextPort : PortLink → PortLink → Type 0
IsNextPort old new = (new.number ≡ next_number old.number) × Fed [] [] new.packets

-- the same link, on which these bytes came, and with them these frames: with those before, all that stand in what came
abbrev pub ReadsFrames : List ℕ → List (List Field) → ClientLink → ClientLink → Type 0
ReadsFrames bytes frames old new =
    (new.number ≡ old.number) × ((fed : List ℕ) → BytesLeave fed old.framer → Feeds fed bytes frames new.framer)

-- and these packets
abbrev pub ReadsPackets : List ℕ → List Packet → PortLink → PortLink → Type 0
ReadsPackets bytes packets old new =
    (new.number ≡ old.number) × ((fed : List ℕ) (before : List Packet) → Fed fed before old.packets
    → Fed (fed ++ bytes) (before ++ packets) new.packets)

-- ---- events

-- one message of a client's, of these fields: its frame has the number that the core expects, or 1 where it expects
-- none
abbrev pub IsMessageEvent : CoreState → Client → List Field → ℕ → ℕ → List Event → Type 0
IsMessageEvent core client fields link at events =
    (s : Settings) (before : History) → IsAfter s before core →
    (frame : List Field)
    × IsOne (law.ClientMessage (client_number client) link at frame) events
    × (fields_text frame ≡ script_frame client fields
    (unwrap_or (next_expected s (client_number client)
    ((lists s before).client_calls (client_number client))) 1) at)

-- bytes came on a client's link: a message for each frame that is whole with them
abbrev pub HasFrames : Client → List ℕ → ℕ → List ClientLink → List ClientLink → List Event → Type 0
HasFrames client bytes at old new events =
    (frames : List (List Field))
    × (map event_seen events ≡ map (law.ClientMessage (client_number client) (client_link new client) at) frames)
    × ClientGoes client (ReadsFrames bytes frames) old new

-- on a port's link: a packet for each
abbrev pub HasPackets : Port → List ℕ → ℕ → List PortLink → List PortLink → List Event → Type 0
HasPackets port bytes at old new events =
    (packets : List Packet)
    × (map event_seen events ≡ map (law.PortPacket (port_number port) (port_link new port) at) packets)
    × PortGoes port (ReadsPackets bytes packets) old new
