-- What a batch writes to a port's link is for the market: a login, a heartbeat, or a message that the port was asked.
use Rattle.std.proofs.Common.{◌≡◌, ◌-◌, ◌==◌, ℕ, Bool, true, false, not, List, [], ◌∷◌, ◌++◌, drop, refl, sym, ap, ◌∙◌}
use Rattle.std.proofs.Common.{subst, Option, Some, None, ◌⊎◌, inl, inr, nat_lt}
use Rattle.std.specs.Prelude.{◌&&◌, if◌then◌else◌, slice_index}
use Rattle.std.specs.List.{flat_map}
use Rattle.order_law.specs.History.{Asked, OrderHistory, OrderTurn, Terms}
use Rattle.order_law.specs.Headline.{Each}
use Rattle.soup_packets.specs.declared.packet.Packet.{Packet}
use Rattle.soup_packets.specs.Spelling.{packet_bytes}
use Rattle.soup_session.specs.declared.port_turn.PortOut.{PortOut}
use Rattle.soup_session.specs.declared.port_turn.PortOut.TheVariants as packets
use Rattle.soup_session.specs.declared.said.Said.{Said}
use Rattle.soup_session.specs.declared.said.Said.TheVariants.{Accepted, Rejected, Sequenced, Nothing, End, Strange}
use Rattle.soup_session.specs.States.{is_down, is_logging_in, is_open, is_up}
use Rattle.soup_session.specs.Reading.{said_of}
use Rattle.soup_session.specs.Table as table
use Rattle.soup_session.specs.Table.{LoginTerms, PortCall, OnUp, OnPacket, OnGone, OnTick, Send, Fail, PortAnswer}
use Rattle.soup_session.specs.Table.{PortStanding, standing, wanted}
use Rattle.market_law.proofs.Basics.{each-join}
use Rattle.gate_law.specs.Settings.{Settings, port_terms}
use Rattle.gate_law.specs.Events.{LinkOut, Write, Close}
use Rattle.gate_law.specs.Lists.{Lists}
use Rattle.gate_law.specs.Sessions.{port_answer, port_outs, to_port}
use Rattle.gate_law.specs.Outcome.{LinkMove, Stays, Comes, Goes, Refused, Outcome, message_in}
use Rattle.gate_law.specs.After.{port_moved}
use Rattle.gate_law.specs.Due.{to_port_of}
use Rattle.world_law.specs.Asked.{BytesAsked, asked}
use Rattle.world_law.proofs.Members.{in-left}
use Rattle.world_law.specs.World.{Carried, carried, for_link}
use Rattle.world_law.proofs.Markets.{IsForMarket}

-- ---- what a session writes

abbrev IsKind : Packet → Type 0
IsKind packet = (packet.kind ≡ 76) ⊎ ((packet.kind ≡ 82) ⊎ (packet.kind ≡ 85))

-- a login, a heartbeat, a message, or the end of the link
abbrev OutKind : PortOut → Type 0
OutKind (packets.Packet packet) = IsKind packet
OutKind packets.Close = Unit {0}

abbrev Kinds : PortAnswer → Type 0
Kinds a = Each OutKind a.outs

kinds-if : (b : Bool) (x y : PortAnswer) → Kinds x → Kinds y → Kinds (if b then x else y)
kinds-if true x y p q = p
kinds-if false x y p q = q

kinds-logs_in : (x : PortStanding) (session : List ℕ) (number : Option ℕ) → Kinds (table.logs_in x session number)
kinds-logs_in x session None = (tt, tt)
kinds-logs_in x session (Some k) =
    kinds-if (k == 0) _ _ (tt, tt) (kinds-if (table.is_other session x.session) _ _ (tt, tt)
    (kinds-if (nat_lt (wanted x) k) _ _ (tt, tt) tt))

kinds-said : (x : PortStanding) (payload : List ℕ) (said : Said) → Kinds (table.on_said x payload said)
kinds-said x payload (Accepted session number) =
    kinds-if (is_logging_in x.state) _ _ (kinds-logs_in x session number) (tt, tt)
kinds-said x payload Rejected = kinds-if (is_logging_in x.state) _ _ (tt, tt) (tt, tt)
kinds-said x payload Sequenced = kinds-if (is_up x.state) _ _ tt (tt, tt)
kinds-said x payload Nothing = tt
kinds-said x payload End = (tt, tt)
kinds-said x payload Strange = (tt, tt)

kinds-tick : (x : PortStanding) → Kinds (table.on_tick x)
kinds-tick x =
    kinds-if (not (is_open x.state)) _ _ tt (kinds-if (nat_lt 15_000 (x.now - x.heard)) _ _ (tt, tt)
    (kinds-if (is_up x.state && nat_lt 1_000 (x.now - x.sent)) _ _ (inr (inl refl), tt) tt))

kinds-call : (terms : LoginTerms) (x : PortStanding) (c : PortCall) → Kinds (table.answer_in terms x c)
kinds-call terms x (OnUp at) = kinds-if (is_down (table.passed at x).state) _ _ (inl refl, tt) (tt, tt)
kinds-call terms x (OnPacket packet at) =
    kinds-if (is_open x.state) _ _ (kinds-said (table.heard_now (table.passed at x)) packet.payload (said_of packet)) tt
kinds-call terms x OnGone = tt
kinds-call terms x (OnTick at) = kinds-tick (table.passed at x)
kinds-call terms x (Send m at) = (inr (inr refl), tt)
kinds-call terms x (Fail fault) = (tt, tt)

kinds-calls : (s : Settings) (p : ℕ) (before : List PortCall) (calls : List PortCall)
    → Each OutKind (port_outs s p before calls)
unfolding port_answer
kinds-calls s p before [] = tt
kinds-calls s p before (c ∷ calls) = each-join OutKind
    (table.answer_in (port_terms s p) (standing (port_terms s p) before) c).outs (port_outs s p (c ∷ before) calls)
    (kinds-call (port_terms s p) (standing (port_terms s p) before) c) (kinds-calls s p (c ∷ before) calls)

-- ---- its lines

abbrev pub LineKind : LinkOut → Type 0
LineKind (Write link bytes) = (packet : Packet) × (packet_bytes packet ≡ bytes) × IsKind packet
LineKind (Close link) = Unit {0}

lines-kinds : (link : Option ℕ) (outs : List PortOut) → Each OutKind outs → Each LineKind (to_port link outs)
lines-kinds None outs k = tt
lines-kinds (Some link) [] k = tt
lines-kinds (Some link) (packets.Packet packet ∷ outs) k = ((packet, refl, k.0), lines-kinds (Some link) outs k.1)
lines-kinds (Some link) (packets.Close ∷ outs) k = (tt, lines-kinds (Some link) outs k.1)

pub due-kinds : (s : Settings) (o : Outcome) (v : Lists) → Each LineKind (to_port_of s o v)
due-kinds s o v = by_move o.port_link ((port_moved o.port o.port_link v).port_link o.port)
  where
    lines : (l : Option ℕ) → Each LineKind (to_port l (port_outs s o.port (v.port_calls o.port) o.port_calls))
    lines l = lines-kinds l (port_outs s o.port (v.port_calls o.port) o.port_calls)
        (kinds-calls s o.port (v.port_calls o.port) o.port_calls)

    by_move : (move : LinkMove) (l : Option ℕ) → Each LineKind (to_port_of s (record o { port_link = move }) v)
    by_move Stays l = lines (v.port_link o.port)
    by_move (Comes link) l = lines ((port_moved o.port (Comes link) v).port_link o.port)
    by_move Goes l = lines ((port_moved o.port Goes v).port_link o.port)
    by_move (Refused link) l = (tt, lines (v.port_link o.port))

-- ---- what is for the market

module _ (ts : List Terms) (p : ℕ) (h : OrderHistory) where
  abbrev pub LineFor : LinkOut → Type 0
  LineFor (Write link bytes) = IsForMarket ts p h bytes
  LineFor (Close link) = Unit {0}

  abbrev pub PacketFor : Carried → Type 0
  PacketFor x = IsForMarket ts p h x.bytes

  packet-for : (packet : Packet) (more : List (List ℕ)) → IsKind packet
      → Each (BytesAsked ts p h) ((if packet.kind == 85 then packet.payload ∷ [] else []) ++ more)
      → IsForMarket ts p h (packet_bytes packet) × Each (BytesAsked ts p h) more
  packet-for packet more kind each = by_kind (packet.kind == 85) refl each
    where
      as-kind : (b : Bool) → (packet.kind == 85) ≡ b
          → Each (BytesAsked ts p h) ((if b then packet.payload ∷ [] else []) ++ more) → IsKind packet
          → IsForMarket ts p h (packet_bytes packet)
      as-kind b is each (inl k) = record { packet = packet; is_packet = refl; has_kind = inl k }
      as-kind b is each (inr (inl k)) = record { packet = packet; is_packet = refl; has_kind = inr (inl k) }
      as-kind true is each (inr (inr k)) = record
          { packet = packet; is_packet = refl; has_kind = inr (inr (k, each.0)) }
      as-kind false is each (inr (inr k)) = absurd (let e : true ≡ false = ap (λ n. n == 85) (sym k) ∙ is in cc)

      by_kind : (b : Bool) → (packet.kind == 85) ≡ b
          → Each (BytesAsked ts p h) ((if b then packet.payload ∷ [] else []) ++ more)
          → IsForMarket ts p h (packet_bytes packet) × Each (BytesAsked ts p h) more
      by_kind true is each = (as-kind true is each kind, each.1)
      by_kind false is each = (as-kind false is each kind, each)

  pub lines-for : (outs : List LinkOut) → Each LineKind outs → Each (BytesAsked ts p h) (flat_map message_in outs)
      → Each LineFor outs
  lines-for [] kinds each = tt
  lines-for (Close link ∷ outs) kinds each = (tt, lines-for outs kinds.1 each)
  lines-for (Write link bytes ∷ outs) kinds each =
      let both = packet-for kinds.0.0 (flat_map message_in outs) kinds.0.2
      (subst (λ (bs : List ℕ). Each (BytesAsked ts p h)
      ((if slice_index bs 2 == 85 then drop 3 bs ∷ [] else []) ++ flat_map message_in outs)) (sym kinds.0.1) each)
      in
      (subst (IsForMarket ts p h) kinds.0.1 both.0, lines-for outs kinds.1 both.1)

  pub carried-for : (link : ℕ) (outs : List LinkOut) (asks : List Asked) → Each LineFor outs
      → Each PacketFor (carried link outs asks)
  carried-for link [] asks k = tt
  carried-for link (Close other ∷ outs) asks k = carried-for link outs asks k.1
  carried-for link (Write other bytes ∷ outs) asks k = by_link (other == link) (carried-for link outs (drop 1 asks) k.1)
    where
      by_link : (b : Bool) → Each PacketFor (carried link outs (drop 1 asks))
          → Each PacketFor (for_link b bytes asks ++ carried link outs (drop 1 asks))
      by_link true rest = (k.0, rest)
      by_link false rest = rest

-- ---- what was for the market still is

kept-for : (ts : List Terms) (p : ℕ) (t : OrderTurn) (before : OrderHistory) (bytes : List ℕ)
    → IsForMarket ts p before bytes → IsForMarket ts p (t ∷ before) bytes
kept-for ts p t before bytes k = record { packet = k.packet; is_packet = k.is_packet; has_kind = by_kind k.has_kind }
  where
    by_kind : (k.packet.kind ≡ 76) ⊎ ((k.packet.kind ≡ 82) ⊎
        ((k.packet.kind ≡ 85) × BytesAsked ts p before k.packet.payload))
        → (k.packet.kind ≡ 76) ⊎ ((k.packet.kind ≡ 82) ⊎
        ((k.packet.kind ≡ 85) × BytesAsked ts p (t ∷ before) k.packet.payload))
    by_kind (inl e) = inl e
    by_kind (inr (inl e)) = inr (inl e)
    by_kind (inr (inr e)) = inr (inr (
      e.0,
      record {
        asks = e.1.asks;
        there = in-left e.1.asks (asked ts p before) _ e.1.there;
        standing = e.1.standing;
        order_of =
            e.1.order_of;
        says = e.1.says;
      },
    ))

pub kept-packets : (ts : List Terms) (p : ℕ) (t : OrderTurn) (before : OrderHistory) (xs : List Carried)
    → Each (PacketFor ts p before) xs → Each (PacketFor ts p (t ∷ before)) xs
kept-packets ts p t before [] k = tt
kept-packets ts p t before (x ∷ xs) k = (kept-for ts p t before x.bytes k.0, kept-packets ts p t before xs k.1)
