-- The next packet of a port's link, and the events of its packets.
use Rattle.std.proofs.Common.{◌≡◌, ℕ, ◌<◌, ◌++◌, List, [], ◌∷◌, length, Some, Ok, refl, sym, subst}
use Rattle.gate_law.specs.Events.{Event, PortPacket}
use Rattle.soup_packets.specs.wire_streams.Buffer.{BytesHeld}
use Rattle.soup_packets.specs.declared.packet.Packet.{Packet}
use Rattle.link_decoders.specs.Decoding.{BringPackets, PacketsOfLink, MadeOfPackets, NextPacket}

bring_more : (port link : ℕ) (packets : List Packet) (events : List Event) (packet : Packet) (event : Event) (at : ℕ)
    → BringPackets port link packets events → event ≡ PortPacket port link at packet
    → BringPackets port link (packets ++ packet ∷ []) (events ++ event ∷ [])
bring_more port link [] [] packet event at so_far e = ((at, e), tt)
bring_more port link [] (x ∷ events) packet event at so_far e = absurd so_far
bring_more port link (p ∷ packets) [] packet event at so_far e = absurd so_far
bring_more port link (p ∷ packets) (x ∷ events) packet event at so_far e =
    (so_far.0, bring_more port link packets events packet event at so_far.1 e)

pub makes_packet : (old p : PacketsOfLink) (at : ℕ) (r : BytesHeld) (packet : Packet)
    → NextPacket (Ok (Some packet)) p.packets r → old ≡ p
    → ((taken : List ℕ) (events : List Event) → MadeOfPackets old taken events
    → MadeOfPackets (record p { packets = r }) taken (events ++ PortPacket p.port p.link at packet ∷ []))
    × (length r.held < length old.packets.held)
makes_packet old p at r packet (passes, fewer) is = (
  λ taken events h.
      let m = subst (λ (z : PacketsOfLink). MadeOfPackets z taken events) is h in (
        m.0 ++ packet ∷ [],
        passes taken m.0 m.1,
        bring_more p.port p.link m.0 events packet (PortPacket p.port p.link at packet) at m.2 refl,
      ),
  subst (λ (z : PacketsOfLink). length r.held < length z.packets.held) (sym is) fewer,
)
