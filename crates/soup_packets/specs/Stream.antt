-- The packets of a stream of bytes: a definition over the whole stream, which knows nothing of pieces.
--
-- Source: SoupBinTCP 3.00, "Logical Packets". That a length of 0 ends the stream is this gateway's own: a packet has
-- its type at least, so no packet begins so.
use Rattle.std.specs.Prelude.{◌≡◌, ℕ, ◌+◌, ◌*◌, ◌<◌, ◌≤◌, ◌⊎◌, Bool, true, false, List, [], ◌∷◌, ◌++◌, length}
use Rattle.std.specs.List.{flat_map}
use Rattle.wire_streams.specs.Buffer.{BytesHeld, LetsGo}
use Rattle.soup_packets.specs.declared.packet.Packet.{Packet}
use Rattle.soup_packets.specs.Spelling.{packet_bytes}

-- packets, one after another
abbrev pub packets_written : List Packet → List ℕ
packets_written packets = flat_map packet_bytes packets

-- the stream begins with these packets
abbrev pub Begins : List Packet → List ℕ → Type 0
Begins packets stream = (rest : List ℕ) × (stream ≡ packets_written packets ++ rest)

-- the packets of a stream: the longest list of packets that it begins with
pub record ArePackets (stream : List ℕ) (packets : List Packet) : Type 0 where
  pub begin : Begins packets stream
  pub longest : (others : List Packet) → Begins others stream → length others ≤ length packets

-- a length of 0 stands behind these packets, where another should begin
abbrev pub EndsEmpty : List ℕ → List Packet → Type 0
EndsEmpty stream packets = (more : List ℕ) × (stream ≡ packets_written packets ++ 0 ∷ 0 ∷ more)

-- ---- what is left of a stream

-- less than a whole packet, as far as it has come, and no length of 0
abbrev pub IsPartial : List ℕ → Type 0
IsPartial [] = Unit {0}
IsPartial (high ∷ []) = Unit {0}
IsPartial (high ∷ low ∷ more) = length more < high * 256 + low

-- it begins with a length of 0
abbrev pub BeginsEmpty : List ℕ → Type 0
BeginsEmpty [] = ⊥
BeginsEmpty (high ∷ []) = ⊥
BeginsEmpty (high ∷ low ∷ more) = (high ≡ 0) × (low ≡ 0)

-- no packet can follow: it is partial, or it begins with a length of 0
abbrev pub Stops : Bool → List ℕ → Type 0
Stops true rest = BeginsEmpty rest
Stops false rest = IsPartial rest

-- ---- a reader of a stream

-- the reader has taken this stream, in any pieces, and these packets were passed: it holds what stands behind them; or
-- a length of 0 stands there, and what follows that may be forgotten
unfoldable pub Fed : List ℕ → List Packet → BytesHeld → Type 0
Fed stream passed reader =
    (stream ≡ packets_written passed ++ reader.held) ⊎ (BeginsEmpty reader.held × EndsEmpty stream passed)

-- the packet in front is let go, where one stands there whole; else nothing changes
abbrev pub PassesPacket : Bool → BytesHeld → BytesHeld → Type 0
PassesPacket true old new =
    (p : Packet) × (old.held ≡ packet_bytes p ++ new.held) × LetsGo (length (packet_bytes p)) old new
PassesPacket false old new = (new ≡ old) × ((p : Packet) (rest : List ℕ) → old.held ≡ packet_bytes p ++ rest → ⊥)
