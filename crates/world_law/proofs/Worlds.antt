-- Each step leaves a world good, and so is each world that steps lead to.
use Rattle.std.proofs.Common.{◌≡◌, ◌≤◌, ◌<◌, ◌+◌, ◌-◌, ◌^◌, ◌==◌, ℕ, zero, suc, Bool, true, false, List, [], ◌∷◌, ◌++◌}
use Rattle.std.proofs.Common.{length, reverse, map, get_or, refl, sym, ap, ◌∙◌, subst, arith, Option, Some, None, ◌⊎◌}
use Rattle.std.proofs.Common.{inl, inr, eq-eqb, append_assoc, leb-true}
use Rattle.std.proofs.lemmas.Bool.{eqb-true}
use Rattle.std.proofs.lemmas.List.{get_or_past, reverse-append, reverse-reverse}
use Rattle.std.specs.Prelude.{◌&&◌, if◌then◌else◌, nat_le, Ok}
use Rattle.std.specs.List.{list_all}
use Rattle.order_law.specs.ouch_codec.declared.inbound.Inbound.{Inbound}
use Rattle.order_law.specs.ouch_codec.Inbound.{inbound_bytes}
use Rattle.order_law.specs.ouch_codec.declared.outbound.Outbound.{Outbound}
use Rattle.order_law.specs.ouch_codec.declared.outbound.Outbound.TheVariants as market
use Rattle.order_law.specs.ouch_codec.Values.{decoded}
use Rattle.order_law.specs.History.{Asked, OrderHistory, Terms, accepted, handled}
use Rattle.order_law.specs.Lawful.{judgement}
use Rattle.order_law.specs.Headline.{Each, Headline}
use Rattle.soup_packets.specs.declared.packet.Packet.{Packet}
use Rattle.soup_packets.specs.Spelling.{packet_bytes, same_packet}
use Rattle.soup_session.specs.Table.{LoginTerms, later}
use Rattle.market_law.specs.declared.choice.Choice.{Choice}
use Rattle.market_law.specs.Machine.{act}
use Rattle.market_law.specs.Run.{Move, Comes, ran}
use Rattle.market_law.specs.Said.{EachSaid, IsSaid}
use Rattle.market_law.proofs.Basics.{and-parts}
use Rattle.market_sim.specs.declared.event.SimEvent.{SimEvent}
use Rattle.market_sim.specs.declared.event.SimEvent.TheVariants as sims
use Rattle.market_sim.specs.declared.link.SimLink.{SimLink}
use Rattle.market_sim.specs.declared.link.SimLink.TheVariants.{NoLink, Connected, LoggedIn}
use Rattle.market_sim.specs.Outbound.{outbound_bytes}
use Rattle.market_sim.specs.Sim.{IsReadAs, SimState, sim_step}
use Rattle.market_sim.proofs.Few.{few-act}
use Rattle.gate_law.specs.Settings.{Settings, has_port, port_terms, terms}
use Rattle.gate_law.specs.Limits.{is_port, is_served}
use Rattle.gate_law.specs.Events.{Event, PortUp, PortPacket, PortGone, Batch, History}
use Rattle.gate_law.specs.Lists.{Lists, turned}
use Rattle.gate_law.specs.Outcome.{outcome}
use Rattle.gate_law.specs.After.{is_within_day, lists, order_turns}
use Rattle.gate_law.specs.Due.{Gives, port_named}
use Rattle.world_law.specs.Asked.{BytesAsked, CameAsked, WasAsked, leads}
use Rattle.world_law.proofs.Homes.{always-of-orders}
use Rattle.world_law.proofs.NoFault.{no-fault, told as told-said}
use Rattle.world_law.proofs.Sent.{read-asked}
use Rattle.world_law.specs.Moves.{IsAfterMoves, heard_on, moves_by}
use Rattle.world_law.specs.World.{Carried, Connection, CoreGets, DeliversToCore, DeliversToMarket, ForPort, Happens}
use Rattle.world_law.specs.World.{LeadsTo, World, WorldStep, Client, Connect, ToMarket, ToCore, Act, Lose, ClientOf}
use Rattle.world_law.specs.World.{ConnectOf, LoseOf, ToCoreOf, ToMarketOf, asked_by_event, connected, core_steps}
use Rattle.world_law.specs.World.{ended, goes_out, is_clients, market_steps, moment_of, opening_world}
use Rattle.world_law.specs.World.{with_connection}
use Rattle.world_law.specs.Ports.{NoFaults}
use Rattle.world_law.proofs.Decoded.{decoded-written}
use Rattle.world_law.proofs.Moving.{at-first, step-kept}
use Rattle.world_law.proofs.InStep.{told, told_link}
use Rattle.world_law.proofs.Markets.{IsForMarket, delivered-step, said-more, said-step, said_in}
use Rattle.world_law.proofs.Core.{StepIn}
use Rattle.world_law.proofs.Events.{EventGoes, Goes, PacketGoes, client-goes, gone-apart, gone-fault, gone-goes}
use Rattle.world_law.proofs.Events.{packet-goes, up-apart, up-fault, up-goes}
use Rattle.world_law.proofs.Lines.{PacketFor}
use Rattle.world_law.proofs.Parts.{at-other, at-own, core-keeps}
use Rattle.world_law.proofs.Good.{Good, GoodAt, IsGood, Lawful, all-good, earlier, good-same, no-more-faults, on-day}
use Rattle.world_law.proofs.Good.{one-more, other-good, own-good, packets_on, room, turns-short}

-- ---- settings that are served: user and password fit into a login

pub record IsShort (t : LoginTerms) : Type 0 where
  pub user : length t.user ≤ 6
  pub password : length t.password ≤ 10

short-port : (t : LoginTerms) → is_port t ≡ true → IsShort t
short-port t e =
    let parts = and-parts (nat_le 1 (length t.user) && nat_le (length t.user) 6) (nat_le (length t.password) 10) e in
    let user = and-parts (nat_le 1 (length t.user)) (nat_le (length t.user) 6) parts.0 in
    record { user = leb-true (length t.user) 6 user.1; password = leb-true (length t.password) 10 parts.1 }

short-in : (ports : List LoginTerms) → list_all is_port ports ≡ true → (k : ℕ)
    → IsShort (get_or ports k (record { user = []; password = [] }))
short-in [] e k = subst IsShort (sym (get_or_past [] k (record { user = []; password = [] }) (omega arith)))
    (record { user = omega arith; password = omega arith })
short-in (t ∷ ports) e zero = short-port t (and-parts (is_port t) (list_all is_port ports) e).0
short-in (t ∷ ports) e (suc k) = short-in ports (and-parts (is_port t) (list_all is_port ports) e).1 k

pub short-terms : (s : Settings) → is_served s ≡ true → (p : ℕ) → IsShort (port_terms s p)
short-terms s served p = short-in s.ports
    (and-parts (list_all is_port s.ports) _ (and-parts _ _ (and-parts _ _ served).1).1).0 (p - 1)

-- ---- the next message of a market is no fault

each-behind : (lead : List ℕ → Option (List ℕ)) (P : Inbound → Type 0) (xs ys : List Outbound)
    → EachSaid lead P (xs ++ ys) → EachSaid lead P ys
each-behind lead P [] ys e = e
each-behind lead P (x ∷ xs) ys e = each-behind lead P xs ys e.1

not-skipped : (lead : List ℕ → Option (List ℕ)) (P : Inbound → Type 0) (m : Outbound) (before : List Outbound)
    → IsSaid lead P m before → m ≡ market.Skipped → ⊥
not-skipped lead P m before said is = subst (λ (x : Outbound). IsSaid lead P x before) is said

module _ (s : Settings) (h : History) (lawful : Lawful s h) (p : ℕ) (moves : List Move) (m : SimState) (x : Option Connection) (good : GoodAt s h p moves m x) where
  abbrev turns : OrderHistory
  turns = order_turns s h

  short : length turns < 2 ^ 59
  short = let few = turns-short s h in omega (arith, few)

  oldest : (next : Outbound) (later : List Outbound) → reverse good.newer ≡ next ∷ later
      → (ran moves).said ≡ reverse later ++ next ∷ handled p turns
  oldest next later is =
      good.split
      ∙ ap (λ (xs : List Outbound). xs ++ handled p turns)
      (sym (reverse-reverse good.newer) ∙ ap reverse is ∙ reverse-append (next ∷ []) later)
      ∙ append_assoc (reverse later) (next ∷ []) (handled p turns)

  pub next-lawful : (next : Outbound) (later : List Outbound) → reverse good.newer ≡ next ∷ later
      → (judgement (terms s) p (Ok next) turns ≡ None) × (decoded (outbound_bytes next) ≡ Ok next)
  next-lawful next later is =
      let split = oldest next later is in
      let always = always-of-orders (terms s) turns lawful.table.0 short lawful.table.1 p in
      let said = each-behind (leads (terms s) p (accepted (terms s) turns)) (WasAsked (terms s) p turns) (reverse later)
      (next ∷ handled p turns)
      (subst (EachSaid (leads (terms s) p (accepted (terms s) turns)) (WasAsked (terms s) p turns)) split
      (told-said (terms s) p turns always moves good.came)) in (
        no-fault (terms s) p turns lawful.table.0 moves (reverse later) next short lawful.table.1 good.came split,
        decoded-written next (not-skipped (leads (terms s) p (accepted (terms s) turns))
            (WasAsked (terms s) p turns) next (handled p turns) said.0),
      )

-- ---- a market steps an event

-- what is read of a packet for the market was asked
read-message : (ts : List Terms) (p : ℕ) (h : OrderHistory) (packet : Packet) (bytes : List ℕ) (message : Inbound)
    → IsForMarket ts p h bytes → packet_bytes packet ≡ bytes → (packet.kind == 85) ≡ true
    → inbound_bytes message ≡ packet.payload → WasAsked ts p h message
read-message ts p h packet bytes message k is kind read = by_kind k.has_kind
  where
    same : k.packet ≡ packet
    same = same_packet k.packet packet (k.is_packet ∙ sym is)

    by_kind : (k.packet.kind ≡ 76) ⊎ ((k.packet.kind ≡ 82) ⊎
        ((k.packet.kind ≡ 85) × BytesAsked ts p h k.packet.payload)) → WasAsked ts p h message
    by_kind (inl e) = absurd (let f : false ≡ true = ap (λ (n : ℕ). n == 85) (sym e ∙ ap (λ (y : Packet). y.kind) same)
        ∙ kind in cc)
    by_kind (inr (inl e)) = absurd (let f : false ≡ true =
        ap (λ (n : ℕ). n == 85) (sym e ∙ ap (λ (y : Packet). y.kind) same) ∙ kind in cc)
    by_kind (inr (inr e)) = read-asked ts p h message
        (subst (BytesAsked ts p h) (ap (λ (y : Packet). y.payload) same ∙ sym read) e.1)

pub no-logout : (ts : List Terms) (p : ℕ) (h : OrderHistory) (packet : Packet) (bytes : List ℕ)
    → IsForMarket ts p h bytes → packet_bytes packet ≡ bytes → (packet.kind == 79) ≡ false
no-logout ts p h packet bytes k is = ap (λ (y : Packet). y.kind == 79) (sym same) ∙ by_kind k.has_kind
  where
    same : k.packet ≡ packet
    same = same_packet k.packet packet (k.is_packet ∙ sym is)

    by_kind : (k.packet.kind ≡ 76) ⊎ ((k.packet.kind ≡ 82) ⊎
        ((k.packet.kind ≡ 85) × BytesAsked ts p h k.packet.payload)) → (k.packet.kind == 79) ≡ false
    by_kind (inl e) = ap (λ (n : ℕ). n == 79) e
    by_kind (inr (inl e)) = ap (λ (n : ℕ). n == 79) e
    by_kind (inr (inr e)) = ap (λ (n : ℕ). n == 79) e.0

-- what comes to the machine was asked
pub came-heard : (ts : List Terms) (p : ℕ) (h : OrderHistory) (moves : List Move) (link : SimLink) (packet : Packet)
    (bytes : List ℕ) (read : Option Inbound) (choice : Choice) → IsForMarket ts p h bytes → packet_bytes packet ≡ bytes
    → IsReadAs packet.payload read
    → Each (CameAsked ts p h) moves → Each (CameAsked ts p h) (heard_on link packet read choice ++ moves)
came-heard ts p h moves NoLink packet bytes read choice k is reads came = came
came-heard ts p h moves Connected packet bytes read choice k is reads came = came
came-heard ts p h moves LoggedIn packet bytes None choice k is reads came = came
came-heard ts p h moves LoggedIn packet bytes (Some message) choice k is reads came = by_kind (packet.kind == 85) refl
  where
    by_kind : (b : Bool) → (packet.kind == 85) ≡ b
        → Each (CameAsked ts p h) ((if b then Comes message choice ∷ [] else []) ++ moves)
    by_kind true kind = (read-message ts p h packet bytes message k is kind reads, came)
    by_kind false kind = came

-- what a market says leaves what is on its way to it
way-out : (ts : List Terms) (p : ℕ) (h : OrderHistory) (packets : List Packet) (x : Option Connection)
    → Each (PacketFor ts p h) (packets_on x) → Each (PacketFor ts p h) (packets_on (goes_out packets x))
way-out ts p h packets None k = k
way-out ts p h packets (Some c) k = k

module _ (s : Settings) (served : is_served s ≡ true) (h : History) (p : ℕ) (moves : List Move) (m : SimState) where
  more-split : (e : SimEvent) (read : Option Inbound) (newer : List Outbound) → IsAfterMoves moves m
      → (ran moves).said ≡ newer ++ handled p (order_turns s h)
      → (ran (moves_by m e read ++ moves)).said
      ≡ (said_in m.book (moves_by m e read) ++ newer) ++ handled p (order_turns s h)
  more-split e read newer after split =
      said-more moves m e read after
      ∙ ap (λ (xs : List Outbound). said_in m.book (moves_by m e read) ++ xs) split
      ∙ sym (append_assoc (said_in m.book (moves_by m e read)) newer (handled p (order_turns s h)))

  -- it does something by itself
  pub act-good : (x : Option Connection) (choice : Choice) → GoodAt s h p moves m x
      → GoodAt s h p (moves_by m (sims.Act choice) None ++ moves) (sim_step m (sims.Act choice) None).state
      (goes_out (sim_step m (sims.Act choice) None).packets x)
  act-good x choice k = record {
    came = (tt, k.came);
    after = step-kept moves m k.after (sims.Act choice) None;
    way = way-out (terms s) p (order_turns s h) (sim_step m (sims.Act choice) None).packets x k.way;
    newer = said_in m.book (moves_by m (sims.Act choice) None) ++ k.newer;
    split = more-split (sims.Act choice) None k.newer k.after k.split;
    in_step = λ on. said-step (port_terms s p) ((lists s h).port_link p) _
        (length (handled p (order_turns s h))) k.newer m.link x (act m.book choice).says (few-act m.book choice)
        (k.in_step on);
  }

  -- a packet is delivered to it
  pub delivered-good : (c : Connection) (first : Carried) (rest : List Carried) (packet : Packet)
      (read : Option Inbound) (choice : Choice) → c.to_market ≡ first ∷ rest → packet_bytes packet ≡ first.bytes
      → IsReadAs packet.payload read
      → GoodAt s h p moves m (Some c)
      → GoodAt s h p (moves_by m (sims.Packet packet choice) read ++ moves)
      (sim_step m (sims.Packet packet choice) read).state
      (goes_out (sim_step m (sims.Packet packet choice) read).packets (Some (record c { to_market = rest })))
  delivered-good c first rest packet read choice way is reads k =
      let all = subst (Each (PacketFor (terms s) p (order_turns s h))) way k.way in
      record {
        came = came-heard (terms s) p (order_turns s h) moves m.link packet first.bytes read choice all.0 is reads
            k.came;
        after = step-kept moves m k.after (sims.Packet packet choice) read;
        way = all.1;
        newer = said_in m.book (moves_by m (sims.Packet packet choice) read) ++ k.newer;
        split = more-split (sims.Packet packet choice) read k.newer k.after k.split;
        in_step = λ on.
            delivered-step (port_terms s p) ((lists s h).port_link p) _ (handled p (order_turns s h)) k.newer m
            (record c { to_market = rest })
            (k.after.kept ∙ ap (λ (xs : List Outbound). map outbound_bytes (reverse xs)) k.split)
            (short-terms s served p).user (short-terms s served p).password (room s h p)
            c first rest packet read choice way refl is
            (no-logout (terms s) p (order_turns s h) packet first.bytes all.0 is) (k.in_step on);
      }

-- a world in which a market steps an event; `w` is how the event leaves it before that
market-good : (s : Settings) (p : ℕ) (e : SimEvent) (read : Option Inbound) (asks : Option Asked) (w : World)
    → GoodAt s w.history p (moves_by (w.markets p) e read ++ w.moves p) (sim_step (w.markets p) e read).state
    (goes_out (sim_step (w.markets p) e read).packets (w.connections p))
    → ((q : ℕ) → (q == p) ≡ false → GoodAt s w.history q (w.moves q) (w.markets q) (w.connections q))
    → Good s (market_steps p e read asks w)
market-good s p e read asks w own others q = by_port (q == p) refl
  where
    after : World
    after = market_steps p e read asks w

    GoodIs : ℕ → Type 0
    GoodIs r = GoodAt s w.history r (after.moves r) (after.markets r) (after.connections r)

    by_port : (c : Bool) → (q == p) ≡ c → GoodAt s w.history q (after.moves q) (after.markets q) (after.connections q)
    by_port true same = subst (λ (r : ℕ). GoodAt s w.history r (after.moves r) (after.markets r) (after.connections r))
        (sym (eqb-true q p same))
        (good-same s w.history p (moves_by (w.markets p) e read ++ w.moves p) (after.moves p)
        (sim_step (w.markets p) e read).state (after.markets p)
        (goes_out (sim_step (w.markets p) e read).packets (w.connections p)) (after.connections p)
        (at-own p (moves_by (w.markets p) e read ++ w.moves p) w.moves)
        (at-own p (sim_step (w.markets p) e read).state w.markets)
        (at-own p (goes_out (sim_step (w.markets p) e read).packets (w.connections p)) w.connections) own)
    by_port false other =
        good-same s w.history q (w.moves q) (after.moves q) (w.markets q) (after.markets q) (w.connections q)
        (after.connections q)
        (at-other p q (moves_by (w.markets p) e read ++ w.moves p) w.moves other)
        (at-other p q (sim_step (w.markets p) e read).state w.markets other)
        (at-other p q (goes_out (sim_step (w.markets p) e read).packets (w.connections p)) w.connections other)
        (others q other)

-- ---- the gateway steps an event

module _ (s : Settings) (served : is_served s ≡ true) (w : World) (good : IsGood s w) (b : Batch) where
  abbrev h : History
  h = w.history

  abbrev v : Lists
  v = lists s w.history

  given : (e : Event) → Lawful s (record { event = e; batch = b } ∷ w.history) → is_within_day w.history ≡ true
      → Gives s e b (lists s w.history)
  given e lawful on = on-day (Gives s e b (lists s w.history)) b (is_within_day w.history) on lawful.run.0

  headline : (e : Event) → Lawful s (record { event = e; batch = b } ∷ w.history) → is_within_day w.history ≡ true
      → Headline (terms s) (turned (outcome s e b (lists s w.history)).turn (lists s w.history)).turns
  headline e lawful on = subst (Headline (terms s))
      (one-more s w.history (record { event = e; batch = b }) on) lawful.orders

  -- of a client, or a tick
  pub client-good : (e : Event) (now : ℕ) → is_clients e ≡ true → Lawful s (record { event = e; batch = b } ∷ w.history)
      → IsGood s (core_steps s e b (record w { now = now }))
  client-good e now is lawful = record {
    good = all-good s e b (record w { now = now })
        (own-good s e b (record w { now = now }) lawful (w.markets (port_named s e)) (w.connections (port_named s e))
        (good.good (port_named s e)) (good.good (port_named s e)).after (good.good (port_named s e)).way
        (λ on k. (goes on (port_named s e) (good.good (port_named s e)).newer k).named
        (asked_by_event s e (lists s w.history) (port_named s e)) (eq-eqb (port_named s e) (port_named s e) refl)))
        (λ q other. other-good s e b (record w { now = now }) lawful q other (good.good q)
        (λ on k. (goes on q (good.good q).newer k).unnamed other));
    no_faults = no-more-faults s e b (record w { now = now }) lawful
        (λ on. (goes on (port_named s e) (good.good (port_named s e)).newer
        ((good.good (port_named s e)).in_step on)).fault) good.no_faults;
  }
    where
      goes : is_within_day w.history ≡ true → (q : ℕ) (newer : List Outbound)
          → StepIn s (lists s w.history) q (length (handled q (order_turns s w.history))) newer (w.markets q).link
          (w.connections q)
          → EventGoes s e b (lists s w.history) q newer (w.markets q).link (w.connections q)
      goes on q newer k = client-goes s b (lists s w.history) q newer (w.markets q).link (w.connections q) k e is
          (given e lawful on) (headline e lawful on)

  -- a connection comes
  pub connect-good : (p : ℕ) → has_port s p ≡ true → w.connections p ≡ None
      → Lawful s (record { event = PortUp p (w.links p + 1) w.now; batch = b } ∷ w.history)
      → IsGood s (core_steps s (PortUp p (w.links p + 1) w.now) b (connected p w))
  connect-good p has none lawful = record {
    good = all-good s e b (connected p w)
        (own-good s e b (connected p w) lawful (w.markets p) None before
        (subst (IsAfterMoves (w.moves p)) (sym market_is)
        (step-kept (w.moves p) (w.markets p) before.after sims.Up None))
        (subst (λ (x : Option Connection). Each (PacketFor (terms s) p (order_turns s w.history)) (packets_on x))
        (sym connection_is) tt)
        (λ on k.
        subst (λ (x : Option Connection). Goes s e b (lists s w.history) p before.newer
        (told_link b.port_out x ((connected p w).markets p).link)
        (told b.port_out (asked_by_event s e (lists s w.history) p) x)) (sym connection_is)
        (subst (λ (m : SimState). Goes s e b (lists s w.history) p before.newer (told_link b.port_out (Some new) m.link)
        (told b.port_out (asked_by_event s e (lists s w.history) p) (Some new))) (sym market_is)
        (up-goes s b (lists s w.history) p (w.links p + 1) w.now before.newer (w.markets p).link new
        (asked_by_event s e (lists s w.history) p) (given e lawful on) has refl refl refl k))))
        (λ q other.
        other-good s e b (connected p w) lawful q other
        (good-same s w.history q (w.moves q) (w.moves q) (w.markets q) ((connected p w).markets q) (w.connections q)
        ((connected p w).connections q) refl
        (at-other p q (sim_step (w.markets p) sims.Up None).state w.markets other)
        (at-other p q (Some new) w.connections other) (good.good q))
        (λ on k. up-apart s b (lists s w.history) p (w.links p + 1) w.now q _ ((connected p w).markets q).link
        ((connected p w).connections q) (given e lawful on) has (before.in_step on).1.core_link k other));
    no_faults = no-more-faults s e b (connected p w) lawful
        (λ on. up-fault s b (lists s w.history) p (w.links p + 1) w.now (given e lawful on) has
        (before.in_step on).1.core_link) good.no_faults;
  }
    where
      e : Event
      e = PortUp p (w.links p + 1) w.now

      new : Connection
      new = record { link = w.links p + 1; to_market = []; to_core = [] }

      before : GoodAt s w.history p (w.moves p) (w.markets p) None
      before = subst (GoodAt s w.history p (w.moves p) (w.markets p)) none (good.good p)

      market_is : (connected p w).markets p ≡ (sim_step (w.markets p) sims.Up None).state
      market_is = at-own p (sim_step (w.markets p) sims.Up None).state w.markets

      connection_is : (connected p w).connections p
          ≡ Some (record { link = w.links p + 1; to_market = []; to_core = [] })
      connection_is = at-own p (Some new) w.connections

  -- the oldest packet on its way is delivered to the gateway
  pub packet-good : (p : ℕ) (c : Connection) (packet : Packet) (rest : List Packet) → has_port s p ≡ true
      → w.connections p ≡ Some c → c.to_core ≡ packet ∷ rest
      → Lawful s (record { event = PortPacket p c.link w.now packet; batch = b } ∷ w.history)
      → IsGood s (core_steps s (PortPacket p c.link w.now packet) b (with_connection p (record c { to_core = rest }) w))
  packet-good p c packet rest has is way lawful = record {
    good = all-good s e b popped
        (own-good s e b popped lawful (w.markets p) (Some c) before before.after
        (subst (λ (x : Option Connection). Each (PacketFor (terms s) p (order_turns s w.history)) (packets_on x))
        (sym connection_is) before.way)
        (λ on k.
        subst (λ (x : Option Connection). Goes s e b (lists s w.history) p before.newer
        (told_link b.port_out x (w.markets p).link) (told b.port_out (asked_by_event s e (lists s w.history) p) x))
        (sym connection_is)
        ((goes on k).own (asked_by_event s e (lists s w.history) p))))
        (λ q other.
        other-good s e b popped lawful q other
        (good-same s w.history q (w.moves q) (w.moves q) (w.markets q) (w.markets q) (w.connections q)
        (popped.connections q) refl refl (at-other p q (Some (record c { to_core = rest })) w.connections other)
        (good.good q))
        (λ on k. (goes on (before.in_step on)).apart q _ (w.markets q).link (popped.connections q) k other));
    no_faults = no-more-faults s e b popped lawful (λ on. (goes on (before.in_step on)).fault) good.no_faults;
  }
    where
      e : Event
      e = PortPacket p c.link w.now packet

      popped : World
      popped = with_connection p (record c { to_core = rest }) w

      before : GoodAt s w.history p (w.moves p) (w.markets p) (Some c)
      before = subst (GoodAt s w.history p (w.moves p) (w.markets p)) is (good.good p)

      connection_is : popped.connections p ≡ Some (record c { to_core = rest })
      connection_is = at-own p (Some (record c { to_core = rest })) w.connections

      goes : is_within_day w.history ≡ true → StepIn s (lists s w.history) p
          (length (handled p (order_turns s w.history))) before.newer (w.markets p).link (Some c)
          → PacketGoes s b (lists s w.history) p w.now packet before.newer (w.markets p).link c rest
      goes on k = packet-goes s b (lists s w.history) p w.now packet before.newer (w.markets p).link c rest
          (given e lawful on) has way (room s w.history p) k (headline e lawful on)
          (next-lawful s w.history (earlier s w.history (record { event = e; batch = b }) lawful) p (w.moves p)
          (w.markets p) (Some c) before)

  -- a connection ends
  pub lose-good : (p : ℕ) (c : Connection) → has_port s p ≡ true → w.connections p ≡ Some c
      → Lawful s (record { event = PortGone p c.link w.now; batch = b } ∷ w.history)
      → IsGood s (core_steps s (PortGone p c.link w.now) b (ended p w))
  lose-good p c has is lawful = record {
    good = all-good s e b (ended p w)
        (own-good s e b (ended p w) lawful (w.markets p) (Some c) before
        (subst (IsAfterMoves (w.moves p)) (sym market_is)
        (step-kept (w.moves p) (w.markets p) before.after sims.Gone None))
        (subst (λ (x : Option Connection). Each (PacketFor (terms s) p (order_turns s w.history)) (packets_on x))
        (sym connection_is) tt)
        (λ on k.
        subst (λ (x : Option Connection). Goes s e b (lists s w.history) p before.newer
        (told_link b.port_out x ((ended p w).markets p).link)
        (told b.port_out (asked_by_event s e (lists s w.history) p) x)) (sym connection_is)
        (subst (λ (m : SimState). Goes s e b (lists s w.history) p before.newer m.link None) (sym market_is)
        (gone-goes s b (lists s w.history) p c.link w.now (given e lawful on) has k.1 before.newer (w.markets p).link c
        (asked_by_event s e (lists s w.history) p) k))))
        (λ q other.
        other-good s e b (ended p w) lawful q other
        (good-same s w.history q (w.moves q) (w.moves q) (w.markets q) ((ended p w).markets q) (w.connections q)
        ((ended p w).connections q) refl
        (at-other p q (sim_step (w.markets p) sims.Gone None).state w.markets other)
        (at-other p q None w.connections other) (good.good q))
        (λ on k. gone-apart s b (lists s w.history) p c.link w.now (given e lawful on) has (before.in_step on).1 q _
        ((ended p w).markets q).link ((ended p w).connections q) k other));
    no_faults = no-more-faults s e b (ended p w) lawful
        (λ on. gone-fault s b (lists s w.history) p c.link w.now (given e lawful on) has (before.in_step on).1)
        good.no_faults;
  }
    where
      e : Event
      e = PortGone p c.link w.now

      before : GoodAt s w.history p (w.moves p) (w.markets p) (Some c)
      before = subst (GoodAt s w.history p (w.moves p) (w.markets p)) is (good.good p)

      market_is : (ended p w).markets p ≡ (sim_step (w.markets p) sims.Gone None).state
      market_is = at-own p (sim_step (w.markets p) sims.Gone None).state w.markets

      connection_is : (ended p w).connections p ≡ None
      connection_is = at-own p None w.connections

-- ---- a step

-- the history of a world after the gateway's step
pub step-lawful : (s : Settings) (e : Event) (w after : World) (k : CoreGets s e w after) → Lawful s after.history
    → Lawful s (record { event = e; batch = k.batch } ∷ w.history)
step-lawful s e w after k lawful = subst (Lawful s)
    (ap (λ (x : World). x.history) k.is_after ∙ (core-keeps s e k.batch w).history) lawful

module _ (s : Settings) (served : is_served s ≡ true) (w after : World) (lawful : Lawful s after.history) (was : Lawful s w.history → IsGood s w) where
  -- one that changes nothing
  none-good : after ≡ w → IsGood s after
  none-good is = subst (IsGood s) (sym is) (was (subst (λ (x : World). Lawful s x.history) is lawful))

  -- one by which the gateway steps an event
  core-step : (e : Event) (x : World) → x.history ≡ w.history → (k : CoreGets s e x after)
      → (Lawful s (record { event = e; batch = k.batch } ∷ w.history) → IsGood s w
      → IsGood s (core_steps s e k.batch x)) → IsGood s after
  core-step e x same k does =
      let all : Lawful s (record { event = e; batch = k.batch } ∷ w.history) =
      subst (λ (h : History). Lawful s (record { event = e; batch = k.batch } ∷ h)) same
      (step-lawful s e x after k lawful) in
      subst (IsGood s) (sym k.is_after) (does all
      (was (earlier s w.history (record { event = e; batch = k.batch }) all)))

  on-port : (p : ℕ) (does : Type 0) → (has_port s p ≡ true → does → IsGood s after)
      → ForPort (has_port s p) does w after → IsGood s after
  on-port p does good happens = by_has (has_port s p) refl happens
    where
      by_has : (c : Bool) → has_port s p ≡ c → ForPort c does w after → IsGood s after
      by_has true has k = good has k
      by_has false has k = none-good k

  client-step : (e : Event) → ClientOf s e (is_clients e) w after → IsGood s after
  client-step e happens = by_kind (is_clients e) refl happens
    where
      by_kind : (c : Bool) → is_clients e ≡ c → ClientOf s e c w after → IsGood s after
      by_kind true is k = core-step e (record w { now = later w.now (moment_of e) }) refl k
          (λ all good. client-good s served w good k.batch e (later w.now (moment_of e)) is all)
      by_kind false is k = none-good k

  connect-step : (p : ℕ) → has_port s p ≡ true → ConnectOf s p (w.connections p) w after → IsGood s after
  connect-step p has happens = by_connection (w.connections p) refl happens
    where
      by_connection : (x : Option Connection) → w.connections p ≡ x → ConnectOf s p x w after → IsGood s after
      by_connection None is k = core-step (PortUp p (w.links p + 1) w.now) (connected p w) refl k
          (λ all good. connect-good s served w good k.batch p has is all)
      by_connection (Some c) is k = none-good k

  to-core-step : (p : ℕ) → has_port s p ≡ true → ToCoreOf s p (w.connections p) w after → IsGood s after
  to-core-step p has happens = by_connection (w.connections p) refl happens
    where
      by_packets : (c : Connection) → w.connections p ≡ Some c → (xs : List Packet) → c.to_core ≡ xs
          → DeliversToCore s p c xs w after → IsGood s after
      by_packets c is [] way k = none-good k
      by_packets c is (packet ∷ rest) way k = core-step (PortPacket p c.link w.now packet)
          (with_connection p (record c { to_core = rest }) w) refl k
          (λ all good. packet-good s served w good k.batch p c packet rest has is way all)

      by_connection : (x : Option Connection) → w.connections p ≡ x → ToCoreOf s p x w after → IsGood s after
      by_connection None is k = none-good k
      by_connection (Some c) is k = by_packets c is c.to_core refl k

  lose-step : (p : ℕ) → has_port s p ≡ true → LoseOf s p (w.connections p) w after → IsGood s after
  lose-step p has happens = by_connection (w.connections p) refl happens
    where
      by_connection : (x : Option Connection) → w.connections p ≡ x → LoseOf s p x w after → IsGood s after
      by_connection None is k = none-good k
      by_connection (Some c) is k = core-step (PortGone p c.link w.now) (ended p w) refl k
          (λ all good. lose-good s served w good k.batch p c has is all)

  -- one by which a market steps an event, which leaves the gateway as it was
  market-step : (p : ℕ) (e : SimEvent) (read : Option Inbound) (asks : Option Asked) (x : World) → x.history ≡ w.history
      → after ≡ market_steps p e read asks x → (IsGood s w → Good s (market_steps p e read asks x)) → IsGood s after
  market-step p e read asks x same is does =
      let all : Lawful s w.history = subst (Lawful s) (ap (λ (y : World). y.history) is ∙ same) lawful in
      subst (IsGood s) (sym is) (record {
        good = does (was all);
        no_faults =
            subst NoFaults (sym same) (was all).no_faults;
      })

  to-market-step : (p : ℕ) (choice : Choice) → ToMarketOf p choice (w.connections p) w after → IsGood s after
  to-market-step p choice happens = by_connection (w.connections p) refl happens
    where
      by_packets : (c : Connection) → w.connections p ≡ Some c → (xs : List Carried) → c.to_market ≡ xs
          → DeliversToMarket p choice c xs w after → IsGood s after
      by_packets c is [] way k = none-good k
      by_packets c is (first ∷ rest) way k =
          market-step p (sims.Packet k.packet choice) k.read first.asks
          (with_connection p (record c { to_market = rest }) w) refl k.is_after
          (λ good.
          market-good s p (sims.Packet k.packet choice) k.read first.asks
          (with_connection p (record c { to_market = rest }) w)
          (subst (λ (x : Option Connection). GoodAt s w.history p
          (moves_by (w.markets p) (sims.Packet k.packet choice) k.read ++ w.moves p)
          (sim_step (w.markets p) (sims.Packet k.packet choice) k.read).state
          (goes_out (sim_step (w.markets p) (sims.Packet k.packet choice) k.read).packets x))
          (sym (at-own p (Some (record c { to_market = rest })) w.connections))
          (delivered-good s served w.history p (w.moves p)
          (w.markets p) c first rest k.packet k.read choice way k.is_packet k.is_read
          (subst (GoodAt s w.history p (w.moves p) (w.markets p)) is (good.good p))))
          (λ q other. good-same s w.history q (w.moves q) (w.moves q) (w.markets q) (w.markets q)
          (w.connections q) _ refl refl (at-other p q (Some (record c { to_market = rest })) w.connections other)
          (good.good q)))

      by_connection : (x : Option Connection) → w.connections p ≡ x → ToMarketOf p choice x w after → IsGood s after
      by_connection None is k = none-good k
      by_connection (Some c) is k = by_packets c is c.to_market refl k

  act-step : (p : ℕ) (choice : Choice) → after ≡ market_steps p (sims.Act choice) None None w → IsGood s after
  act-step p choice is =
      market-step p (sims.Act choice) None None w refl is
      (λ good. market-good s p (sims.Act choice) None None w
      (act-good s served w.history p (w.moves p) (w.markets p) (w.connections p) choice (good.good p))
      (λ q other. good.good q))

  pub step-good : (step : WorldStep) → Happens s step w after → IsGood s after
  step-good (Client e) k = client-step e k
  step-good (Connect p) k = on-port p _ (λ has does. connect-step p has does) k
  step-good (ToMarket p choice) k = on-port p _ (λ has does. to-market-step p choice does) k
  step-good (ToCore p) k = on-port p _ (λ has does. to-core-step p has does) k
  step-good (Act p choice) k = on-port p _ (λ has does. act-step p choice does) k
  step-good (Lose p) k = on-port p _ (λ has does. lose-step p has does) k

-- ---- all steps

opening-good : (s : Settings) → IsGood s opening_world
opening-good s = record {
  good = λ p. record {
    came = tt;
    after = at-first;
    way = tt;
    newer = [];
    split = refl;
    in_step = λ within. (
      record { wants = refl; session = inl refl },
      record
          { core_link = refl; state = refl; market_link = refl },
    );
  };
  no_faults = tt;
}

pub worlds-good : (s : Settings) → is_served s ≡ true → (steps : List WorldStep) (w : World) → LeadsTo s steps w
    → Lawful s w.history → IsGood s w
worlds-good s served [] w is lawful = subst (IsGood s) (sym is) (opening-good s)
worlds-good s served (step ∷ before) w leads lawful =
    step-good s served leads.0 w lawful (λ was. worlds-good s served before leads.0 leads.1 was) step leads.2
