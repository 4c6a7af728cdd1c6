-- The words in which histories of the whole core are written down: events, and what their batches have. FIX frames
-- are text with `|` for SOH; the market's messages are those of `order_examples`. Every moment is the first one.
use Rattle.std.specs.Prelude.{ℕ, List, [], ◌∷◌, ◌++◌, map, Some, codes, decimal, replicate}
use Rattle.gate_law.specs.fix_fields.Field.{Field, Message, field}
use Rattle.session_law.specs.fix_framing.Frame.{frame_text}
use Rattle.gate_law.specs.soup_packets.declared.packet.Packet.{Packet}
use Rattle.gate_law.specs.soup_packets.Spelling.{packet_bytes}
use Rattle.gate_law.specs.soup_session.declared.port_fault.PortFault.{PortFault}
use Rattle.gate_law.specs.soup_session.Table as port
use Rattle.gate_law.specs.order_law.History.{terms_of}
use Rattle.gate_law.specs.fix_fields.Transcript.{message}
use Rattle.order_examples.specs.Transcript as orders
use Rattle.gate_law.specs.Settings.{ClientSettings, Settings}
use Rattle.gate_law.specs.Events.{Event, LinkOut, Write, Close, Batch, empty, Turn, History}

-- ---- settings: clients C1 and C2 on port 1, C3 on port 2

abbrev pub client_by : List ℕ → ℕ → ClientSettings
client_by name number = record { comp = name; terms = terms_of orders.fixed_terms number }

abbrev pub port_user : port.LoginTerms
port_user = record { user = codes "USER01"; password = codes "PASSWORD" }

abbrev pub settings : Settings
settings = record {
  comp = codes "GATE";
  ports = port_user ∷ port_user ∷ [];
  clients = client_by (codes "C1") 1 ∷ client_by (codes "C2") 2 ∷ client_by (codes "C3") 3 ∷ [];
}

abbrev name_of : ℕ → List ℕ
name_of number = codes "C" ++ decimal number

-- ---- frames

-- a header is written behind the type
abbrev with_header : List Field → Message → Message
with_header header [] = header
with_header header (type ∷ fields) = type ∷ header ++ fields

abbrev moment : List ℕ
moment = codes "19700101-00:00:00.000"

-- a frame of a client, with its names and this number
abbrev pub from : ℕ → ℕ → List ℕ → Message
from number sequence text = with_header (field 49 (name_of number) ∷ field 56 (codes "GATE")
    ∷ field 34 (decimal sequence) ∷ []) (message text)

-- the fields of a frame to a client
abbrev pub to : ℕ → ℕ → List ℕ → Message
to number sequence text = with_header (field 49 (codes "GATE") ∷ field 56 (name_of number)
    ∷ field 34 (decimal sequence) ∷ field 52 moment ∷ []) (message text)

-- a report or reject to a client: its moment (60) stands at the end
abbrev pub report_out : ℕ → ℕ → List ℕ → Message
report_out number sequence text = to number sequence text ++ field 60 moment ∷ []

-- ---- packets

abbrev pub packet : ℕ → List ℕ → Packet
packet kind payload = record { kind = kind; payload = payload }

-- Login Accepted: a session and a number of one digit
abbrev pub login_accepted : List ℕ → List ℕ → Packet
login_accepted session digit = packet 65 (session ++ replicate 19 32 ++ digit)

-- sequenced data
abbrev pub sequenced : List ℕ → Packet
sequenced payload = packet 83 payload

abbrev pub end : Packet
end = packet 90 []

abbrev pub one : List ℕ
one = codes "SESSION001"

-- ---- what links are told

abbrev pub wrote : ℕ → Message → LinkOut
wrote link fields = Write link (frame_text fields)

-- a Login Request that asks for a number of one digit
abbrev pub login_out : ℕ → List ℕ → List ℕ → LinkOut
login_out link session digit = Write link (0 ∷ 47 ∷ codes "LUSER01PASSWORD  " ++ session ++ replicate 19 32 ++ digit)

abbrev pub blank_session : List ℕ
blank_session = replicate 10 32

-- an order message
abbrev pub asked_out : ℕ → List ℕ → LinkOut
asked_out link payload = Write link (packet_bytes (packet 85 payload))

-- ---- batches

abbrev pub client_batch : ℕ → List LinkOut → Batch
client_batch number outs = record empty { client = Some number; client_out = outs }

abbrev pub port_batch : ℕ → List LinkOut → Batch
port_batch number outs = record empty { port = Some number; port_out = outs }

-- a client is told reports on its link, and its port is asked nothing
abbrev pub told_batch : ℕ → ℕ → List Message → Batch
told_batch number link reports = record empty {
  client = Some number;
  reports = reports;
  client_out = map (wrote link) reports;
}

-- and a port is asked as well
abbrev pub told_and_asked : ℕ → ℕ → List Message → ℕ → List LinkOut → Batch
told_and_asked number link reports p outs = record (told_batch number link reports) { port = Some p; port_out = outs }

-- a port is at fault, and its link is closed
abbrev pub port_faulted : ℕ → ℕ → PortFault → Batch
port_faulted p link fault = record empty { port = Some p; port_out = Close link ∷ []; fault = Some fault }

-- ---- turns

abbrev pub turn : Event → Batch → Turn
turn e b = record { event = e; batch = b }

-- turns in the order in which they happen, after those before
abbrev pub after_turns : List Turn → History → History
after_turns [] before = before
after_turns (t ∷ ts) before = after_turns ts (t ∷ before)
