-- The record of an event, and the event that a record says. What a text and a packet are is said by FIX 4.4 Volume 1,
-- "FIX Tag=Value Syntax", and SoupBinTCP 3.00, "Logical Packets".
use Rattle.std.specs.Prelude.{ℕ, ◌==◌, List, [], drop, slice_index, Option, Some, None, unwrap_or, if◌then◌else◌}
use Rattle.journal_pages.specs.fix_fields.Field.{AreFields, Message, fields_text}
use Rattle.journal_pages.specs.fix_fields.Reading.{fields_of}
use Rattle.soup_packets.specs.declared.packet.Packet.{Packet}
use Rattle.soup_packets.specs.Spelling.{packet_bytes}
use Rattle.gate_events.specs.declared.event.Event.{Event}
use Rattle.gate_events.specs.declared.event.Event.TheVariants as events
use Rattle.journal_pages.specs.declared.kind.RecordKind.{RecordKind}
use Rattle.journal_pages.specs.declared.kind.RecordKind.TheVariants as kinds
use Rattle.journal_pages.specs.Record.{Record}

abbrev pub record_with : RecordKind → (source link at : ℕ) → List ℕ → Record
record_with kind source link at payload =
    record { kind = kind; source = source; link = link; at = at; payload = payload }

abbrev pub event_record : Event → Record
event_record (events.ClientUp client link at) = record_with kinds.ClientUp client link at []
event_record (events.ClientMessage client link at frame) =
    record_with kinds.ClientMessage client link at (fields_text frame)
event_record (events.ClientGone client link at) = record_with kinds.ClientGone client link at []
event_record (events.ClientTick client at) = record_with kinds.ClientTick client 0 at []
event_record (events.PortUp port link at) = record_with kinds.PortUp port link at []
event_record (events.PortPacket port link at packet) = record_with kinds.PortPacket port link at (packet_bytes packet)
event_record (events.PortGone port link at) = record_with kinds.PortGone port link at []
event_record (events.PortTick port at) = record_with kinds.PortTick port 0 at []

-- the fields of a frame are ones that can be written
abbrev pub AreItsFields : Event → Type 0
AreItsFields (events.ClientUp client link at) = Unit {0}
AreItsFields (events.ClientMessage client link at frame) = AreFields frame
AreItsFields (events.ClientGone client link at) = Unit {0}
AreItsFields (events.ClientTick client at) = Unit {0}
AreItsFields (events.PortUp port link at) = Unit {0}
AreItsFields (events.PortPacket port link at packet) = Unit {0}
AreItsFields (events.PortGone port link at) = Unit {0}
AreItsFields (events.PortTick port at) = Unit {0}

-- ---- read

-- the fields that a payload is
abbrev pub payload_fields : List ℕ → Message
payload_fields payload = unwrap_or (fields_of payload) []

-- the packet that a payload is: its type stands behind a length of two bytes
abbrev pub payload_packet : List ℕ → Packet
payload_packet payload = record { kind = slice_index payload 2; payload = drop 3 payload }

abbrev pub event_of_kind : RecordKind → Record → Option Event
event_of_kind kinds.ClientUp r = Some (events.ClientUp r.source r.link r.at)
event_of_kind kinds.ClientMessage r = Some (events.ClientMessage r.source r.link r.at (payload_fields r.payload))
event_of_kind kinds.ClientGone r = Some (events.ClientGone r.source r.link r.at)
event_of_kind kinds.PortUp r = Some (events.PortUp r.source r.link r.at)
event_of_kind kinds.PortPacket r = Some (events.PortPacket r.source r.link r.at (payload_packet r.payload))
event_of_kind kinds.PortGone r = Some (events.PortGone r.source r.link r.at)
event_of_kind kinds.ClientTick r = Some (events.ClientTick r.source r.at)
event_of_kind kinds.PortTick r = Some (events.PortTick r.source r.at)
event_of_kind kinds.Report r = None
event_of_kind kinds.ClientWrite r = None
event_of_kind kinds.ClientClose r = None
event_of_kind kinds.PortWrite r = None
event_of_kind kinds.PortClose r = None
event_of_kind kinds.Fault r = None
event_of_kind kinds.BatchEnd r = None

-- the event that a record says; an event is of somebody
abbrev pub event_in : Record → Option Event
event_in r = if r.source == 0 then None else event_of_kind r.kind r
