-- The rows of a day: which messages are handed on, whose, which way and in which order.
use Rattle.std.specs.Prelude.{ℕ, List, [], ◌∷◌, ◌++◌, Option, Some, None, if◌then◌else◌}
use Rattle.std.specs.List.{flat_map}
use Rattle.fix_fields.specs.Field.{Field, first_value}
use Rattle.soup_packets.specs.declared.packet.Packet.{Packet}
use Rattle.gate_journal.specs.gate_law.Events as law
use Rattle.gate_events.specs.declared.event.Event.{Event}
use Rattle.gate_events.specs.declared.event.Event.TheVariants as events
use Rattle.gate_journal.specs.Kept.{Kept}
use Rattle.day_export.specs.declared.format.Format.{Format}
use Rattle.day_export.specs.declared.row.Head.{Head}
use Rattle.day_export.specs.declared.row.Who.TheVariants as who
use Rattle.day_export.specs.declared.row.Way.TheVariants as way
use Rattle.day_export.specs.Exported.{is_of_orders}
use Rattle.day_export.specs.Forms.{head_text, row_text}
use Rattle.day_export.specs.Market.{asked_said, packet_said}
use Rattle.day_export.specs.Said.{fields_said}

-- ---- messages

-- a FIX message, by its fields that are handed on
abbrev pub fields_row : Format → Head → List Field → List ℕ
fields_row format head fields = row_text format head (fields_said fields)

-- of a client's frame, where its type (35) is one of the order level
abbrev pub typed_row : Format → Head → List Field → Option (List ℕ) → List ℕ
typed_row format head fields None = []
typed_row format head fields (Some kind) = if is_of_orders kind then fields_row format head fields else []

abbrev pub frame_row : Format → Head → List Field → List ℕ
frame_row format head fields = typed_row format head fields (first_value 35 fields)

-- what the market says by a packet
abbrev pub packet_row : Format → Head → Packet → List ℕ
packet_row format head packet = row_text format head (packet_said packet)

-- what is asked of it by a packet's bytes
abbrev pub asked_row : Format → Head → List ℕ → List ℕ
asked_row format head bytes = row_text format head (asked_said bytes)

abbrev pub out_row : Format → Head → law.LinkOut → List ℕ
out_row format head (law.Write link bytes) = asked_row format head bytes
out_row format head (law.Close link) = []

-- ---- events

abbrev pub moment_of : Event → ℕ
moment_of (events.ClientUp client link at) = at
moment_of (events.ClientMessage client link at frame) = at
moment_of (events.ClientGone client link at) = at
moment_of (events.ClientTick client at) = at
moment_of (events.PortUp port link at) = at
moment_of (events.PortPacket port link at packet) = at
moment_of (events.PortGone port link at) = at
moment_of (events.PortTick port at) = at

-- what came: a client's frame, or a packet of the market
unfoldable pub came : Format → Event → List ℕ
came format (events.ClientUp client link at) = []
came format (events.ClientMessage client link at frame) =
    frame_row format (record { at = at; who = who.Client client; way = way.In }) frame
came format (events.ClientGone client link at) = []
came format (events.ClientTick client at) = []
came format (events.PortUp port link at) = []
came format (events.PortPacket port link at packet) =
    packet_row format (record { at = at; who = who.Port port; way = way.In }) packet
came format (events.PortGone port link at) = []
came format (events.PortTick port at) = []

-- what a client was issued, in its order, be it written or not
abbrev pub told_to : Format → ℕ → List (List Field) → Option ℕ → List ℕ
told_to format at reports None = []
told_to format at reports (Some client) =
    flat_map (fields_row format (record { at = at; who = who.Client client; way = way.Out })) reports

unfoldable pub told : Format → ℕ → law.Batch → List ℕ
told format at b = told_to format at b.reports b.client

-- what a port was asked, in its order
abbrev pub asked_of : Format → ℕ → List law.LinkOut → Option ℕ → List ℕ
asked_of format at outs None = []
asked_of format at outs (Some port) =
    flat_map (out_row format (record { at = at; who = who.Port port; way = way.Out })) outs

unfoldable pub asked : Format → ℕ → law.Batch → List ℕ
asked format at b = asked_of format at b.port_out b.port

-- ---- days

-- an event with its batch: what came, what the client was told, what the market was asked
unfoldable pub turn_text : Format → Event → law.Batch → List ℕ
turn_text format e b = came format e ++ told format (moment_of e) b ++ asked format (moment_of e) b

-- one after another, as they came
abbrev pub turns_text : Format → List Event → List law.Batch → List ℕ
turns_text format [] batches = []
turns_text format (e ∷ events) [] = []
turns_text format (e ∷ events) (b ∷ batches) = turn_text format e b ++ turns_text format events batches

-- a day: a row for each message, and nothing else but what stands before the first
abbrev pub exported : Format → Kept → List ℕ
exported format day = head_text format ++ turns_text format day.events day.batches
