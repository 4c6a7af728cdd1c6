-- The frames of a client's link and the packets of a port's, as events.
use Rattle.std.specs.Prelude.{◌≡◌, ℕ, ◌≤◌, ◌<◌, ◌++◌, Bool, true, false, List, []}
use Rattle.std.specs.Prelude.{◌∷◌, length, Option, Some, None, Result, Ok, Err}
use Rattle.gate_law.specs.Events.{Event, ClientMessage, PortPacket}
use Rattle.fix_framing.specs.fix_fields.Field.{Message, fields_text}
use Rattle.fix_framing.specs.Stream.{ReaderStanding, Passed, End, Rest, Over, parts, left, longest}
use Rattle.soup_packets.specs.wire_streams.Buffer.{BytesHeld}
use Rattle.soup_packets.specs.declared.packet.Packet.{Packet}
use Rattle.soup_packets.specs.Stream.{Fed, ArePackets, EndsEmpty}
use Rattle.link_decoders.specs.declared.decode_fault.DecodeFault.{DecodeFault}
use Rattle.link_decoders.specs.declared.decode_fault.DecodeFault.TheVariants.{Malformed, NoMemory}

-- ---- a client's

-- these events bring these frames, in order, on a link of a client
abbrev pub BringFrames : (client link : ℕ) → List Message → List Event → Type 0
BringFrames client link [] [] = Unit {0}
BringFrames client link [] (event ∷ events) = ⊥
BringFrames client link (frame ∷ frames) [] = ⊥
BringFrames client link (frame ∷ frames) (event ∷ events) =
    ((at : ℕ) × (event ≡ ClientMessage client link at frame)) × BringFrames client link frames events

pub record FramesOfLink : Type 0 where
  pub client : ℕ
  pub link : ℕ
  pub framer : ReaderStanding

-- of these bytes the events were made, each of a frame that was passed
abbrev pub MadeOfFrames : FramesOfLink → List ℕ → List Event → Type 0
MadeOfFrames f taken events =
    (frames : List Message) × Passed taken frames f.framer × BringFrames f.client f.link frames events

-- a head that announces too long a frame stands behind all frames, or bytes that wait for more
abbrev pub EndsSo : Bool → End → Type 0
EndsSo true end = end ≡ Over
EndsSo false end = (rest : List ℕ) × (end ≡ Rest rest)

-- the events bring all frames of these bytes
abbrev pub AreAllOfFrames : FramesOfLink → Bool → List ℕ → List Event → Type 0
AreAllOfFrames f over taken events = BringFrames f.client f.link (parts taken).frames events
    × EndsSo over (parts taken).end

-- the next frame is passed, and given, where one is whole; `Malformed` where too long a one is announced
abbrev pub NextFrame : Result (Option Message) DecodeFault → ReaderStanding → ReaderStanding → Type 0
NextFrame (Ok (Some fields)) old new =
    ((taken : List ℕ) (passed : List Message) → Passed taken passed old → Passed taken (passed ++ fields ∷ []) new)
    × ((left old.end).frames ≡ fields ∷ (left new.end).frames) × (length (fields_text fields) ≤ longest)
NextFrame (Ok None) old new =
    (taken : List ℕ) (passed : List Message) → Passed taken passed old
    → Passed taken passed new × ((parts taken).frames ≡ passed) × EndsSo false (parts taken).end
NextFrame (Err Malformed) old new =
    (taken : List ℕ) (passed : List Message) → Passed taken passed old
    → Passed taken passed new × ((parts taken).frames ≡ passed) × EndsSo true (parts taken).end
NextFrame (Err NoMemory) old new =
    (taken : List ℕ) (passed : List Message) → Passed taken passed old → Passed taken passed new

-- ---- a port's

-- these events bring these packets, in order, on a link of a port
abbrev pub BringPackets : (port link : ℕ) → List Packet → List Event → Type 0
BringPackets port link [] [] = Unit {0}
BringPackets port link [] (event ∷ events) = ⊥
BringPackets port link (packet ∷ packets) [] = ⊥
BringPackets port link (packet ∷ packets) (event ∷ events) =
    ((at : ℕ) × (event ≡ PortPacket port link at packet)) × BringPackets port link packets events

pub record PacketsOfLink : Type 0 where
  pub port : ℕ
  pub link : ℕ
  pub packets : BytesHeld

-- of these bytes the events were made, each of a packet that was passed
abbrev pub MadeOfPackets : PacketsOfLink → List ℕ → List Event → Type 0
MadeOfPackets p taken events =
    (packets : List Packet) × Fed taken packets p.packets × BringPackets p.port p.link packets events

-- a length of 0 stands behind all packets, or it does not
abbrev pub EndsAtEmpty : Bool → List ℕ → List Packet → Type 0
EndsAtEmpty true taken packets = EndsEmpty taken packets
EndsAtEmpty false taken packets = Unit {0}

-- the events bring all packets of these bytes
abbrev pub AreAllOfPackets : PacketsOfLink → Bool → List ℕ → List Event → Type 0
AreAllOfPackets p over taken events =
    (packets : List Packet) × ArePackets taken packets × BringPackets p.port p.link packets events
    × EndsAtEmpty over taken packets

-- the next packet is passed, and given, where one is whole; `Malformed` where a length of 0 stands there
abbrev pub NextPacket : Result (Option Packet) DecodeFault → BytesHeld → BytesHeld → Type 0
NextPacket (Ok (Some packet)) old new =
    ((taken : List ℕ) (passed : List Packet) → Fed taken passed old → Fed taken (passed ++ packet ∷ []) new)
    × (length new.held < length old.held)
NextPacket (Ok None) old new =
    (taken : List ℕ) (passed : List Packet) → Fed taken passed old → Fed taken passed new × ArePackets taken passed
NextPacket (Err Malformed) old new =
    (taken : List ℕ) (passed : List Packet) → Fed taken passed old
    → Fed taken passed new × ArePackets taken passed × EndsEmpty taken passed
NextPacket (Err NoMemory) old new = (taken : List ℕ) (passed : List Packet) → Fed taken passed old
    → Fed taken passed new
