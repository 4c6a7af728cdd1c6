-- Each step of the closed world keeps the way of each port, so that the Cancel Orders of one request find at most one
-- token live.
use Rattle.std.proofs.Common.{◌≡◌, ◌<◌, ◌≤◌, ◌+◌, ◌^◌, ◌==◌, ℕ, Bool, true, false, List, [], ◌∷◌, ◌++◌, length, refl}
use Rattle.std.proofs.Common.{sym, ap, ◌∙◌, subst, arith, Option, Some, None, inl, inr, ⊎_elim}
use Rattle.std.proofs.lemmas.Bool.{eqb-true}
use Rattle.std.proofs.lemmas.List.{append-nil}
use Rattle.std.specs.Prelude.{if◌then◌else◌}
use Rattle.std.specs.List.{list_any}
use Rattle.order_law.specs.ouch_codec.declared.inbound.Inbound.{Inbound}
use Rattle.order_law.specs.ouch_codec.declared.outbound.Outbound.{Outbound}
use Rattle.order_law.specs.History.{Asked, OrderHistory, Terms, handled}
use Rattle.order_law.specs.Headline.{Each}
use Rattle.soup_packets.specs.declared.packet.Packet.{Packet}
use Rattle.soup_session.specs.States.{is_up}
use Rattle.soup_session.specs.Table.{LoginTerms, PortStanding, later}
use Rattle.market_law.specs.declared.choice.Choice.{Choice}
use Rattle.market_law.specs.Machine.{Machine}
use Rattle.market_law.specs.Run.{Move, Acts}
use Rattle.market_law.proofs.Basics.{each-parts}
use Rattle.market_sim.specs.declared.event.SimEvent.{SimEvent}
use Rattle.market_sim.specs.declared.event.SimEvent.TheVariants as sims
use Rattle.market_sim.specs.declared.link.SimLink.{SimLink}
use Rattle.market_sim.specs.declared.link.SimLink.TheVariants.{NoLink, Connected, LoggedIn}
use Rattle.market_sim.specs.Sim.{SimState, hears, on_packet, sends_nothing, server_heartbeat, sim_step}
use Rattle.gate_law.specs.Settings.{Settings, has_port, port_of, port_terms, terms}
use Rattle.gate_law.specs.Limits.{is_served}
use Rattle.gate_law.specs.Events.{Event, ClientUp, ClientMessage, ClientGone, ClientTick, PortUp, PortPacket, PortGone}
use Rattle.gate_law.specs.Events.{PortTick, Batch, History, LinkOut, Turn}
use Rattle.gate_law.specs.Outcome.{outcome}
use Rattle.gate_law.specs.After.{is_close, is_within_day, lists, order_turns}
use Rattle.gate_law.specs.Due.{Gives, port_named}
use Rattle.world_law.specs.Ports.{NoFaults}
use Rattle.world_law.specs.Asked.{CameAsked}
use Rattle.world_law.specs.Moves.{heard_on, moves_by}
use Rattle.world_law.specs.Promises.{FindOne}
use Rattle.world_law.specs.World.{Arrival, Carried, Connection, CoreGets, DeliversToCore, DeliversToMarket, ForPort}
use Rattle.world_law.specs.World.{Happens, LeadsTo, World, WorldStep, Client, Connect, ToMarket, ToCore, Act, Lose}
use Rattle.world_law.specs.World.{ClientOf, ConnectOf, LoseOf, ToCoreOf, ToMarketOf, arrived_with, asked_by_event}
use Rattle.world_law.specs.World.{carried, connected, core_steps, ended, goes_out, is_clients, market_steps}
use Rattle.world_law.specs.World.{moment_of, opening_world, told_connection, told_port, with_connection}
use Rattle.world_law.proofs.InStep.{InStep, OnConnection, told}
use Rattle.world_law.proofs.Core.{StepIn, stands_at}
use Rattle.world_law.proofs.Good.{GoodAt, IsGood, Lawful, earlier, good-same, off-day, packets_on, port-due, room}
use Rattle.world_law.proofs.Good.{turns-short}
use Rattle.world_law.proofs.Parts.{ToldAt, Untold, at-other, at-own, core-keeps, core-other, core-own, told_market}
use Rattle.world_law.proofs.Worlds.{came-heard, no-logout, step-lawful, worlds-good}
use Rattle.world_law.proofs.Lines.{PacketFor}
use Rattle.world_law.proofs.Arriving.{asks_in}
use Rattle.world_law.proofs.Way.{WayAt, way-delivered, way-moved, way-none, way-told}
use Rattle.world_law.proofs.Sending.{IsUp, Quiet, Sends, apart-down, event-way, served-before, unasked, within-first}
use Rattle.world_law.proofs.Given.{is_plain, message-sends, now-other, packet-sends, plain-asks, plain-turn}

-- what holds of a port of a world
abbrev pub FindsAt : Settings → World → ℕ → Type 0
FindsAt s w q = WayAt (terms s) q (order_turns s w.history) (w.moves q) (w.markets q).link
    (packets_on (w.connections q)) (IsUp s w.history q) (w.arrived q)

ways-same : (ts : List Terms) (q : ℕ) (h : OrderHistory) (ms ms' : List Move) (link link' : SimLink)
    (x x' : Option Connection) (U : Type 0) (arrived arrived' : List Arrival) → ms' ≡ ms → link' ≡ link → x' ≡ x
    → arrived' ≡ arrived
    → WayAt ts q h ms link (packets_on x) U arrived → WayAt ts q h ms' link' (packets_on x') U arrived'
ways-same ts q h ms ms' link link' x x' U arrived arrived' same_moves same_link same_connection same_arrived k =
    subst (λ (m : List Move). WayAt ts q h m link' (packets_on x') U arrived') (sym same_moves)
    (subst (λ (l : SimLink). WayAt ts q h ms l (packets_on x') U arrived') (sym same_link)
    (subst (λ (y : Option Connection). WayAt ts q h ms link (packets_on y) U arrived') (sym same_connection)
    (subst (λ (a : List Arrival). WayAt ts q h ms link (packets_on x) U a) (sym same_arrived) k)))

-- the market's end of a session that is up is logged in
serving-logged : (t : LoginTerms) (l : Option ℕ) (x : PortStanding) (count : ℕ) (newer : List Outbound)
    (market : SimLink) (c : Connection) → InStep t l x count newer market (Some c) → is_up x.state ≡ true
    → market ≡ LoggedIn
serving-logged t l x count newer market c k up = by_state k.2
  where
    by_state : OnConnection t x count newer market c → market ≡ LoggedIn
    by_state (inl i) = absurd (let e : false ≡ true = sym (ap is_up i.state) ∙ up in cc)
    by_state (inr (inl i)) = i.market_link
    by_state (inr (inr i)) = i.market_link

core-arrived : (s : Settings) (e : Event) (b : Batch) (w : World) → (core_steps s e b w).arrived ≡ w.arrived
core-arrived s e b w = by_port b.port
  where
    y : World
    y = record w { history = record { event = e; batch = b } ∷ w.history }

    by_close : (p : ℕ) (c : Connection) (d : Bool)
        → (if d then ended p y else with_connection p c y).arrived ≡ w.arrived
    by_close p c true = refl
    by_close p c false = refl

    by_connection : (p : ℕ) (outs : List LinkOut) (asks : List Asked) (x : Option Connection)
        → (told_connection p outs asks x y).arrived ≡ w.arrived
    by_connection p outs asks None = refl
    by_connection p outs asks (Some c) = by_close p (record c { to_market = c.to_market ++ carried c.link outs asks })
        (list_any (is_close (Some c.link)) outs)

    by_port : (port : Option ℕ) → (told_port s e (lists s w.history) b.port_out port y).arrived ≡ w.arrived
    by_port None = refl
    by_port (Some p) = by_connection p b.port_out (asked_by_event s e (lists s w.history) p) (w.connections p)

-- ---- the gateway steps an event; `w` is how the event leaves the world before the batch

module _ (s : Settings) (e : Event) (b : Batch) (w : World) (lawful : Lawful s (record { event = e; batch = b } ∷ w.history)) (good : IsGood s (core_steps s e b w)) where
  abbrev t : Turn
  t = record { event = e; batch = b }

  abbrev after : World
  after = core_steps s e b w

  abbrev named : ℕ
  named = port_named s e

  abbrev asks : List Asked
  asks = asked_by_event s e (lists s w.history) (port_named s e)

  abbrev WayAfter : ℕ → Type 0
  WayAfter q = WayAt (terms s) q (order_turns s (t ∷ w.history)) (w.moves q) (after.markets q).link
      (packets_on (after.connections q)) (IsUp s (t ∷ w.history) q) (w.arrived q)

  abbrev Way : ℕ → SimLink → List Carried → Type 0
  Way q link packets = WayAt (terms s) q (order_turns s w.history) (w.moves q) link packets (IsUp s w.history q)
      (w.arrived q)

  abbrev SendsTo : ℕ → SimLink → List Carried → List Carried → Type 0
  SendsTo q link packets more = Sends s q (order_turns s w.history) (outcome s e b (lists s w.history)).turn link
      (IsUp s w.history q) (IsUp s (t ∷ w.history) q) packets more

  pub after-good : (q : ℕ) → GoodAt s (t ∷ w.history) q (w.moves q) (after.markets q) (after.connections q)
  after-good q =
      subst (λ (ms : List Move). GoodAt s (t ∷ w.history) q ms (after.markets q) (after.connections q))
      (ap (λ (f : ℕ → List Move). f q) (core-keeps s e b w).moves)
      (subst (λ (h : History). GoodAt s h q (after.moves q) (after.markets q) (after.connections q))
      (core-keeps s e b w).history (good.good q))

  off-up : (q : ℕ) → is_within_day w.history ≡ false → IsUp s (t ∷ w.history) q → ⊥
  off-up q off up = within-first t w.history up.0 off

  down : (q : ℕ) → after.connections q ≡ None → IsUp s (t ∷ w.history) q → ⊥
  down q none up =
      let k = after-good q in
      apart-down (port_terms s q) ((lists s (t ∷ w.history)).port_link q) (stands_at s (lists s (t ∷ w.history)) q)
      (length (handled q (order_turns s (t ∷ w.history)))) k.newer (after.markets q).link
      (subst (λ (x : Option Connection). StepIn s (lists s (t ∷ w.history)) q
      (length (handled q (order_turns s (t ∷ w.history)))) k.newer (after.markets q).link x) none (k.in_step up.0))
      up.1

  module _ (q : ℕ) (came : Each (CameAsked (terms s) q (order_turns s w.history)) (w.moves q)) where
    -- where no connection is left
    pub none-way : (link : SimLink) (packets : List Carried) (U : Type 0) → after.connections q ≡ None
        → WayAt (terms s) q (order_turns s w.history) (w.moves q) link packets U (w.arrived q) → WayAfter q
    none-way link packets U none k =
        subst (λ (x : Option Connection). WayAt (terms s) q (order_turns s (t ∷ w.history)) (w.moves q)
        (after.markets q).link (packets_on x) (IsUp s (t ∷ w.history) q) (w.arrived q)) (sym none)
        (event-way s w.history t lawful q (w.moves q) came (after-good q).newer (after-good q).split ⊥
        (IsUp s (t ∷ w.history) q) (off-up q) (after.markets q).link [] [] (w.arrived q) (λ off. refl)
        (λ on. Quiet refl (λ u. down q none u) (λ x is u. absurd (down q none u)))
        (way-none (terms s) q (order_turns s w.history) (w.moves q) link (after.markets q).link U ⊥ packets
        (w.arrived q) (λ z. z) k))

    -- where the connection stays, with more on its way
    pub more-way : (c c' : Connection) (link : SimLink) (more : List Carried) → after.connections q ≡ Some c'
        → (after.markets q).link ≡ link → c'.to_market ≡ c.to_market ++ more
        → (is_within_day w.history ≡ false → asks_in more ≡ [])
        → (is_within_day w.history ≡ true → SendsTo q link c.to_market more) → Way q link c.to_market → WayAfter q
    more-way c c' link more is link_is way off sends k =
        subst (λ (x : Option Connection). WayAt (terms s) q (order_turns s (t ∷ w.history)) (w.moves q)
        (after.markets q).link (packets_on x) (IsUp s (t ∷ w.history) q) (w.arrived q)) (sym is)
        (subst (λ (xs : List Carried). WayAt (terms s) q (order_turns s (t ∷ w.history)) (w.moves q)
        (after.markets q).link xs (IsUp s (t ∷ w.history) q) (w.arrived q)) (sym way)
        (subst (λ (l : SimLink). WayAt (terms s) q (order_turns s (t ∷ w.history)) (w.moves q) l (c.to_market ++ more)
        (IsUp s (t ∷ w.history) q) (w.arrived q)) (sym link_is)
        (event-way s w.history t lawful q (w.moves q) came (after-good q).newer (after-good q).split
        (IsUp s w.history q) (IsUp s (t ∷ w.history) q) (off-up q) link c.to_market more
        (w.arrived q) off sends k)))

    -- one that serves after it served before it, where nothing was delivered to the gateway
    pub served : (c c' : Connection) (m : SimState) → (before : GoodAt s w.history q (w.moves q) m (Some c))
        → after.connections q ≡ Some c' → (after.markets q).link ≡ m.link → c'.to_core ≡ c.to_core
        → is_within_day w.history ≡ true → IsUp s (t ∷ w.history) q → IsUp s w.history q
    served c c' m before is link_is same on up = (
      on,
      served-before (port_terms s q) (port_terms s q) ((lists s w.history).port_link q)
          ((lists s (t ∷ w.history)).port_link q) (stands_at s (lists s w.history) q)
          (stands_at s (lists s (t ∷ w.history)) q)
          (length (handled q (order_turns s w.history)))
          (length (handled q (order_turns s (t ∷ w.history)))) before.newer (after-good q).newer m.link c c'
          (before.in_step on)
          (subst (λ (l : SimLink). StepIn s (lists s (t ∷ w.history)) q
          (length (handled q (order_turns s (t ∷ w.history)))) (after-good q).newer l (Some c')) link_is
          (subst (λ (x : Option Connection). StepIn s (lists s (t ∷ w.history)) q
          (length (handled q (order_turns s (t ∷ w.history)))) (after-good q).newer (after.markets q).link x) is
          ((after-good q).in_step up.0))) same up.1,
    )

    -- a port that the event doesn't name
    pub other-way : (q == port_named s e) ≡ false → GoodAt s w.history q (w.moves q) (w.markets q) (w.connections q)
        → Way q (w.markets q).link (packets_on (w.connections q)) → WayAfter q
    other-way other before k = by_connection (w.connections q) refl before k
      where
        untold : Untold q w after
        untold = core-other s e b w (port-due s w.history t lawful) q other

        by_connection : (x : Option Connection) → w.connections q ≡ x → GoodAt s w.history q (w.moves q) (w.markets q) x
            → Way q (w.markets q).link (packets_on x) → WayAfter q
        by_connection None is bef way = none-way (w.markets q).link [] (IsUp s w.history q) (untold.connection ∙ is) way
        by_connection (Some c) is bef way =
            more-way c c (w.markets q).link [] (untold.connection ∙ is) (ap (λ (m : SimState). m.link) untold.market)
            (sym (append-nil c.to_market)) (λ off. refl)
            (λ on. Quiet refl (λ u. served c c (w.markets q) bef (untold.connection ∙ is)
            (ap (λ (m : SimState). m.link) untold.market) refl on u)
            (λ x turn u. now-other s e b (lists s w.history) q x turn other)) way

  -- the port that it names: where the connection isn't closed, by what the event sends on it
  pub own-way : (came : Each (CameAsked (terms s) named (order_turns s w.history)) (w.moves named))
      → ((c : Connection) → w.connections named ≡ Some c
      → after.connections named ≡ Some (record c { to_market = c.to_market ++ carried c.link b.port_out asks })
      → (after.markets named).link ≡ (w.markets named).link → is_within_day w.history ≡ true
      → SendsTo named (w.markets named).link c.to_market (carried c.link b.port_out asks))
      → Way named (w.markets named).link (packets_on (w.connections named)) → WayAfter named
  own-way came sends k = by_connection (w.connections named) refl k
    where
      its_parts : ToldAt named b.port_out asks (w.connections named) w after
      its_parts = core-own s e b w (port-due s w.history t lawful) asks refl

      silent : is_within_day w.history ≡ false → b.port_out ≡ []
      silent off = ap (λ (x : Batch). x.port_out)
          (off-day (Gives s e b (lists s w.history)) b (is_within_day w.history) off lawful.run.0)

      by_close : (c : Connection) → w.connections named ≡ Some c → Way named (w.markets named).link c.to_market
          → (d : Bool) → list_any (is_close (Some c.link)) b.port_out ≡ d → WayAfter named
      by_close c is way true closes =
          none-way named came (w.markets named).link c.to_market (IsUp s w.history named)
          (its_parts.connection ∙ ap (told b.port_out asks) is
          ∙ ap (λ (d : Bool). if d then None else Some
          (record c { to_market = c.to_market ++ carried c.link b.port_out asks })) closes) way
      by_close c is way false stays =
          let connection : after.connections named ≡ Some
          (record c { to_market = c.to_market ++ carried c.link b.port_out asks }) =
          its_parts.connection ∙ ap (told b.port_out asks) is
          ∙ ap (λ (d : Bool). if d then None else Some
          (record c { to_market = c.to_market ++ carried c.link b.port_out asks })) stays in
          let link : (after.markets named).link ≡ (w.markets named).link =
          ap (λ (m : SimState). m.link) (its_parts.market
          ∙ ap (λ (x : Option Connection). told_market b.port_out x (w.markets named)) is
          ∙ ap (λ (d : Bool). if d then (sim_step (w.markets named) sims.Gone None).state else w.markets named)
          stays) in
          more-way named came c (record c { to_market = c.to_market ++ carried c.link b.port_out asks })
          (w.markets named).link (carried c.link b.port_out asks) connection link refl
          (λ off. ap (λ (outs : List LinkOut). asks_in (carried c.link outs asks)) (silent off))
          (λ on. sends c is connection link on) way

      by_connection : (x : Option Connection) → w.connections named ≡ x
          → Way named (w.markets named).link (packets_on x) → WayAfter named
      by_connection None is way = none-way named came (w.markets named).link [] (IsUp s w.history named)
          (its_parts.connection ∙ ap (told b.port_out asks) is) way
      by_connection (Some c) is way = by_close c is way (list_any (is_close (Some c.link)) b.port_out) refl

  -- all ports
  pub all-ways : WayAfter named → ((q : ℕ) → (q == named) ≡ false → WayAfter q) → (q : ℕ) → FindsAt s after q
  all-ways own others q =
      subst (λ (h : History). WayAt (terms s) q (order_turns s h) (after.moves q) (after.markets q).link
      (packets_on (after.connections q)) (IsUp s h q) (after.arrived q)) (sym (core-keeps s e b w).history)
      (subst (λ (ms : List Move). WayAt (terms s) q (order_turns s (t ∷ w.history)) ms (after.markets q).link
      (packets_on (after.connections q)) (IsUp s (t ∷ w.history) q) (after.arrived q))
      (ap (λ (f : ℕ → List Move). f q) (sym (core-keeps s e b w).moves))
      (subst (λ (a : List Arrival). WayAt (terms s) q (order_turns s (t ∷ w.history)) (w.moves q) (after.markets q).link
      (packets_on (after.connections q)) (IsUp s (t ∷ w.history) q) a)
      (ap (λ (f : ℕ → List Arrival). f q) (sym (core-arrived s e b w)))
      (by_port (q == named) refl)))
    where
      by_port : (c : Bool) → (q == named) ≡ c → WayAfter q
      by_port true same = subst WayAfter (sym (eqb-true q named same)) own
      by_port false other = others q other

-- ---- a market steps an event

out-same : (packets : List Packet) (x : Option Connection) → packets_on (goes_out packets x) ≡ packets_on x
out-same packets None = refl
out-same packets (Some c) = refl

market-finds : (s : Settings) (p : ℕ) (e : SimEvent) (read : Option Inbound) (asks : Option Asked) (w : World)
    → WayAt (terms s) p (order_turns s w.history) (moves_by (w.markets p) e read ++ w.moves p)
    (sim_step (w.markets p) e read).state.link (packets_on (w.connections p)) (IsUp s w.history p)
    (arrived_with asks (moves_by (w.markets p) e read) (w.markets p).book (w.arrived p))
    → ((q : ℕ) → (q == p) ≡ false → FindsAt s w q) → (q : ℕ) → FindsAt s (market_steps p e read asks w) q
market-finds s p e read asks w own others q = by_port (q == p) refl
  where
    after : World
    after = market_steps p e read asks w

    by_port : (c : Bool) → (q == p) ≡ c → FindsAt s after q
    by_port true same = subst (FindsAt s after) (sym (eqb-true q p same))
        (ways-same (terms s) p (order_turns s w.history) (moves_by (w.markets p) e read ++ w.moves p) (after.moves p)
        (sim_step (w.markets p) e read).state.link (after.markets p).link
        (goes_out (sim_step (w.markets p) e read).packets (w.connections p)) (after.connections p) (IsUp s w.history p)
        (arrived_with asks (moves_by (w.markets p) e read) (w.markets p).book (w.arrived p)) (after.arrived p)
        (at-own p (moves_by (w.markets p) e read ++ w.moves p) w.moves)
        (ap (λ (m : SimState). m.link) (at-own p (sim_step (w.markets p) e read).state w.markets))
        (at-own p (goes_out (sim_step (w.markets p) e read).packets (w.connections p)) w.connections)
        (at-own p (arrived_with asks (moves_by (w.markets p) e read) (w.markets p).book (w.arrived p)) w.arrived)
        (subst (λ (xs : List Carried). WayAt (terms s) p (order_turns s w.history)
        (moves_by (w.markets p) e read ++ w.moves p) (sim_step (w.markets p) e read).state.link xs
        (IsUp s w.history p) (arrived_with asks (moves_by (w.markets p) e read) (w.markets p).book (w.arrived p)))
        (sym (out-same (sim_step (w.markets p) e read).packets (w.connections p))) own))
    by_port false other =
        ways-same (terms s) q (order_turns s w.history) (w.moves q) (after.moves q) (w.markets q).link
        (after.markets q).link (w.connections q) (after.connections q) (IsUp s w.history q) (w.arrived q)
        (after.arrived q)
        (at-other p q (moves_by (w.markets p) e read ++ w.moves p) w.moves other)
        (ap (λ (m : SimState). m.link) (at-other p q (sim_step (w.markets p) e read).state w.markets other))
        (at-other p q (goes_out (sim_step (w.markets p) e read).packets (w.connections p)) w.connections other)
        (at-other p q (arrived_with asks (moves_by (w.markets p) e read) (w.markets p).book (w.arrived p)) w.arrived
        other) (others q other)

-- a market's end that is logged in stays so, whatever comes but a logout
stays-logged : (m : SimState) (packet : Packet) (read : Option Inbound) (choice : Choice) → (packet.kind == 79) ≡ false
    → m.link ≡ LoggedIn → (on_packet m m.link packet read choice).state.link ≡ LoggedIn
stays-logged m packet read choice stays logged =
    subst (λ (l : SimLink). (on_packet m l packet read choice).state.link ≡ LoggedIn) (sym logged)
    (by_kind (packet.kind == 85) (packet.kind == 82) (packet.kind == 79) stays read)
  where
    by_kind : (says beats leaves : Bool) → leaves ≡ false → (r : Option Inbound)
        → (if says then hears m r choice else if beats then record { state = m; packets = server_heartbeat ∷ [] } else
        if leaves then sends_nothing (record m { link = NoLink }) else sends_nothing m).state.link ≡ LoggedIn
    by_kind true beats leaves e None = logged
    by_kind true beats leaves e (Some message) = logged
    by_kind false true leaves e r = logged
    by_kind false false true e r = absurd (cc)
    by_kind false false false e r = logged

relinked : (ts : List Terms) (q : ℕ) (h : OrderHistory) (ms : List Move) (link link' : SimLink) (packets : List Carried)
    (U : Type 0) (arrived : List Arrival) → (link ≡ LoggedIn → link' ≡ LoggedIn)
    → WayAt ts q h ms link packets U arrived → WayAt ts q h ms link' packets U arrived
relinked ts q h ms link link' packets U arrived stays k = record {
  waiting = k.waiting;
  kept = k.kept;
  given = k.given;
  says = k.says;
  ready = ⊎_elim (λ e. inl e) (λ e. inr (stays e)) k.ready;
  fixed = k.fixed;
  one = k.one;
}

-- ---- a step

-- what is known of the world before it
pub record Before (s : Settings) (w : World) : Type 0 where
  pub good : IsGood s w
  pub finds : (q : ℕ) → FindsAt s w q

module _ (s : Settings) (w : World) (before : Before s w) (b : Batch) where
  abbrev h : History
  h = w.history

  -- what an event sends on a connection that its batch doesn't close
  abbrev SendsIt : ℕ → Event → Type 0
  SendsIt now e = Lawful s (record { event = e; batch = b } ∷ w.history)
      → IsGood s (core_steps s e b (record w { now = now })) → (c : Connection)
      → w.connections (port_named s e) ≡ Some c
      → (core_steps s e b (record w { now = now })).connections (port_named s e)
      ≡ Some (record c {
        to_market = c.to_market
            ++ carried c.link b.port_out (asked_by_event s e (lists s w.history) (port_named s e));
      })
      → ((core_steps s e b (record w { now = now })).markets (port_named s e)).link ≡ (w.markets (port_named s e)).link
      → is_within_day w.history ≡ true
      → Sends s (port_named s e) (order_turns s w.history) (outcome s e b (lists s w.history)).turn
      (w.markets (port_named s e)).link (IsUp s w.history (port_named s e))
      (IsUp s (record { event = e; batch = b } ∷ w.history) (port_named s e)) c.to_market
      (carried c.link b.port_out (asked_by_event s e (lists s w.history) (port_named s e)))

  client-finds : (e : Event) (now : ℕ) → is_clients e ≡ true → Lawful s (record { event = e; batch = b } ∷ w.history)
      → IsGood s (core_steps s e b (record w { now = now })) → (q : ℕ)
      → FindsAt s (core_steps s e b (record w { now = now })) q
  client-finds e now by_client lawful good = all-ways s e b y lawful good
      (own-way s e b y lawful good (before.good.good (port_named s e)).came (sends e by_client lawful good)
      (before.finds (port_named s e)))
      (λ q other. other-way s e b y lawful good q (before.good.good q).came other (before.good.good q) (before.finds q))
    where
      y : World
      y = record w { now = now }

      here : (p : ℕ) (c : Connection) → w.connections p ≡ Some c
          → GoodAt s w.history p (w.moves p) (w.markets p) (Some c)
      here p c is = subst (GoodAt s w.history p (w.moves p) (w.markets p)) is (before.good.good p)

      plain : (e : Event) → is_plain e ≡ true → SendsIt now e
      plain e brings_none lawful good c is connection link on = Quiet
          (ap (λ (asks : List Asked). asks_in (carried c.link b.port_out asks))
          (plain-asks s e (lists s w.history) (port_named s e) brings_none) ∙ unasked c.link b.port_out)
          (λ u. served s e b (record w { now = now }) lawful good (port_named s e)
          (before.good.good (port_named s e)).came c
          (record c {
            to_market = c.to_market ++ carried c.link b.port_out
                (asked_by_event s e (lists s w.history) (port_named s e));
          }) (w.markets (port_named s e))
          (here (port_named s e) c is) connection link refl on u)
          (λ x turn u. absurd (plain-turn s e b (lists s w.history) x brings_none turn))

      sends : (e : Event) → is_clients e ≡ true → SendsIt now e
      sends (ClientUp client link at) is lawful good c its connection same on =
          plain (ClientUp client link at) refl lawful good c its connection same on
      sends (ClientMessage client link at frame) is lawful good c its connection same on =
          let k = here (port_of s client) c its in
          message-sends s w.history client link at frame b lawful on c (w.markets (port_of s client)).link
          (k.in_step on).1 (λ u. serving-logged (port_terms s (port_of s client))
          ((lists s w.history).port_link (port_of s client)) (stands_at s (lists s w.history) (port_of s client))
          (length (handled (port_of s client) (order_turns s w.history))) k.newer
          (w.markets (port_of s client)).link c (k.in_step on) u.1)
          (IsUp s (record { event = ClientMessage client link at frame; batch = b } ∷ w.history) (port_of s client))
          (λ u. served s (ClientMessage client link at frame) b (record w { now = now }) lawful good (port_of s client)
          (before.good.good (port_of s client)).came c
          (record c {
            to_market = c.to_market ++ carried c.link b.port_out
                (asked_by_event s (ClientMessage client link at frame) (lists s w.history) (port_of s client));
          })
          (w.markets (port_of s client)) k connection same refl on u)
      sends (ClientGone client link at) is lawful good c its connection same on =
          plain (ClientGone client link at) refl lawful good c its connection same on
      sends (ClientTick client at) is lawful good c its connection same on =
          plain (ClientTick client at) refl lawful good c its connection same on
      sends (PortUp p link at) is lawful good c its connection same on = absurd (cc)
      sends (PortPacket p link at packet) is lawful good c its connection same on = absurd (cc)
      sends (PortGone p link at) is lawful good c its connection same on = absurd (cc)
      sends (PortTick p at) is lawful good c its connection same on =
          plain (PortTick p at) refl lawful good c its connection same on

  connect-finds : (p : ℕ) → w.connections p ≡ None
      → Lawful s (record { event = PortUp p (w.links p + 1) w.now; batch = b } ∷ w.history)
      → IsGood s (core_steps s (PortUp p (w.links p + 1) w.now) b (connected p w))
      → (q : ℕ) → FindsAt s (core_steps s (PortUp p (w.links p + 1) w.now) b (connected p w)) q
  connect-finds p none lawful good = all-ways s e b (connected p w) lawful good
      (own-way s e b (connected p w) lawful good (before.good.good p).came sends way)
      (λ q other.
      other-way s e b (connected p w) lawful good q (before.good.good q).came other
      (good-same s w.history q (w.moves q) (w.moves q) (w.markets q) ((connected p w).markets q) (w.connections q)
      ((connected p w).connections q) refl
      (at-other p q (sim_step (w.markets p) sims.Up None).state w.markets other)
      (at-other p q (Some new) w.connections other) (before.good.good q))
      (ways-same (terms s) q (order_turns s w.history) (w.moves q) (w.moves q) (w.markets q).link
      ((connected p w).markets q).link (w.connections q) ((connected p w).connections q) (IsUp s w.history q)
      (w.arrived q) (w.arrived q) refl
      (ap (λ (m : SimState). m.link) (at-other p q (sim_step (w.markets p) sims.Up None).state w.markets other))
      (at-other p q (Some new) w.connections other) refl (before.finds q)))
    where
      e : Event
      e = PortUp p (w.links p + 1) w.now

      new : Connection
      new = record { link = w.links p + 1; to_market = []; to_core = [] }

      after : World
      after = core_steps s (PortUp p (w.links p + 1) w.now) b (connected p w)

      connection_is : (connected p w).connections p
          ≡ Some (record { link = w.links p + 1; to_market = []; to_core = [] })
      connection_is = at-own p (Some new) w.connections

      way : WayAt (terms s) p (order_turns s w.history) (w.moves p) ((connected p w).markets p).link
          (packets_on ((connected p w).connections p)) (IsUp s w.history p) (w.arrived p)
      way = subst (λ (x : Option Connection). WayAt (terms s) p (order_turns s w.history) (w.moves p)
          ((connected p w).markets p).link (packets_on x) (IsUp s w.history p) (w.arrived p)) (sym connection_is)
          (way-told (terms s) p (order_turns s w.history) (w.moves p) (w.markets p).link
          ((connected p w).markets p).link (IsUp s w.history p) (IsUp s w.history p) [] [] (w.arrived p) refl tt
          (λ u. u) (λ says. inl refl)
          (subst (λ (x : Option Connection). WayAt (terms s) p (order_turns s w.history) (w.moves p) (w.markets p).link
          (packets_on x) (IsUp s w.history p) (w.arrived p)) none (before.finds p)))

      sends : (c : Connection) → (connected p w).connections p ≡ Some c
          → after.connections p ≡ Some (record c {
            to_market =
                c.to_market ++ carried c.link b.port_out (asked_by_event s e (lists s w.history) p);
          })
          → (after.markets p).link ≡ ((connected p w).markets p).link → is_within_day w.history ≡ true
          → Sends s p (order_turns s w.history) (outcome s e b (lists s w.history)).turn
          ((connected p w).markets p).link (IsUp s w.history p)
          (IsUp s (record { event = e; batch = b } ∷ w.history) p) c.to_market
          (carried c.link b.port_out (asked_by_event s e (lists s w.history) p))
      sends c is connection link on = Quiet
          (ap (λ (asks : List Asked). asks_in (carried c.link b.port_out asks))
          (plain-asks s e (lists s w.history) p refl) ∙ unasked c.link b.port_out)
          (λ u. absurd (apart u)) (λ x turn u. absurd (plain-turn s e b (lists s w.history) x refl turn))
        where
          apart : IsUp s (record { event = e; batch = b } ∷ w.history) p → ⊥
          apart u =
              let k = after-good s e b (connected p w) lawful good p in
              let h' : History = record { event = e; batch = b } ∷ w.history in
              let logged : (after.markets p).link ≡ LoggedIn =
              serving-logged (port_terms s p) ((lists s h').port_link p) (stands_at s (lists s h') p)
              (length (handled p (order_turns s h'))) k.newer (after.markets p).link
              (record c {
                to_market = c.to_market ++ carried c.link b.port_out
                    (asked_by_event s e (lists s w.history) p);
              })
              (subst (λ (x : Option Connection). StepIn s (lists s h') p (length (handled p (order_turns s h'))) k.newer
              (after.markets p).link x) connection (k.in_step u.0)) u.1 in
              let waits : (after.markets p).link ≡ Connected = link
              ∙ ap (λ (m : SimState). m.link) (at-own p (sim_step (w.markets p) sims.Up None).state w.markets) in
              (let f : Connected ≡ LoggedIn = sym waits ∙ logged in cc)

  packet-finds : (p : ℕ) (c : Connection) (packet : Packet) (rest : List Packet) → has_port s p ≡ true
      → w.connections p ≡ Some c → c.to_core ≡ packet ∷ rest
      → Lawful s (record { event = PortPacket p c.link w.now packet; batch = b } ∷ w.history)
      → IsGood s (core_steps s (PortPacket p c.link w.now packet) b (with_connection p (record c { to_core = rest }) w))
      → (q : ℕ) → FindsAt s (core_steps s (PortPacket p c.link w.now packet) b
      (with_connection p (record c { to_core = rest }) w)) q
  packet-finds p c packet rest has is way lawful good = all-ways s e b popped lawful good
      (own-way s e b popped lawful good (before.good.good p).came sends its_way)
      (λ q other.
      other-way s e b popped lawful good q (before.good.good q).came other
      (good-same s w.history q (w.moves q) (w.moves q) (w.markets q) (w.markets q) (w.connections q)
      (popped.connections q) refl refl (at-other p q (Some (record c { to_core = rest })) w.connections other)
      (before.good.good q))
      (ways-same (terms s) q (order_turns s w.history) (w.moves q) (w.moves q) (w.markets q).link (w.markets q).link
      (w.connections q) (popped.connections q) (IsUp s w.history q) (w.arrived q) (w.arrived q) refl refl
      (at-other p q (Some (record c { to_core = rest })) w.connections other) refl (before.finds q)))
    where
      e : Event
      e = PortPacket p c.link w.now packet

      popped : World
      popped = with_connection p (record c { to_core = rest }) w

      k : GoodAt s w.history p (w.moves p) (w.markets p) (Some c)
      k = subst (GoodAt s w.history p (w.moves p) (w.markets p)) is (before.good.good p)

      connection_is : popped.connections p ≡ Some (record c { to_core = rest })
      connection_is = at-own p (Some (record c { to_core = rest })) w.connections

      its_way : WayAt (terms s) p (order_turns s w.history) (w.moves p) (w.markets p).link
          (packets_on (popped.connections p)) (IsUp s w.history p) (w.arrived p)
      its_way = subst (λ (x : Option Connection). WayAt (terms s) p (order_turns s w.history) (w.moves p)
          (w.markets p).link (packets_on x) (IsUp s w.history p) (w.arrived p)) (sym connection_is)
          (subst (λ (x : Option Connection). WayAt (terms s) p (order_turns s w.history) (w.moves p) (w.markets p).link
          (packets_on x) (IsUp s w.history p) (w.arrived p)) is (before.finds p))

      fault : b.fault ≡ None
      fault = (subst NoFaults (core-keeps s e b popped).history good.no_faults).0

      sends : (d : Connection) → popped.connections p ≡ Some d
          → (core_steps s e b popped).connections p
          ≡ Some (record d {
            to_market = d.to_market
                ++ carried d.link b.port_out (asked_by_event s e (lists s w.history) p);
          })
          → ((core_steps s e b popped).markets p).link ≡ (w.markets p).link → is_within_day w.history ≡ true
          → Sends s p (order_turns s w.history) (outcome s e b (lists s w.history)).turn (w.markets p).link
          (IsUp s w.history p) (IsUp s (record { event = e; batch = b } ∷ w.history) p) d.to_market
          (carried d.link b.port_out (asked_by_event s e (lists s w.history) p))
      sends d its connection link on =
          let same : record c { to_core = rest } ≡ d =
          (let f : Some (record c { to_core = rest }) ≡ Some d = sym connection_is ∙ its in cc) in
          subst (λ (x : Connection). Sends s p (order_turns s w.history) (outcome s e b (lists s w.history)).turn
          (w.markets p).link (IsUp s w.history p) (IsUp s (record { event = e; batch = b } ∷ w.history) p)
          x.to_market (carried x.link b.port_out (asked_by_event s e (lists s w.history) p))) same
          (packet-sends s w.history p w.now packet b c rest lawful on has way k.newer (w.markets p).link (k.in_step on)
          (room s w.history p) fault (IsUp s (record { event = e; batch = b } ∷ w.history) p))

  lose-finds : (p : ℕ) (c : Connection) → w.connections p ≡ Some c
      → Lawful s (record { event = PortGone p c.link w.now; batch = b } ∷ w.history)
      → IsGood s (core_steps s (PortGone p c.link w.now) b (ended p w))
      → (q : ℕ) → FindsAt s (core_steps s (PortGone p c.link w.now) b (ended p w)) q
  lose-finds p c is lawful good = all-ways s e b (ended p w) lawful good
      (none-way s e b (ended p w) lawful good p (before.good.good p).came (w.markets p).link c.to_market
      (IsUp s w.history p)
      ((core-own s e b (ended p w) (port-due s w.history (record { event = e; batch = b }) lawful)
      (asked_by_event s e (lists s w.history) p) refl).connection
      ∙ ap (told b.port_out (asked_by_event s e (lists s w.history) p)) (at-own p None w.connections))
      (subst (λ (x : Option Connection). WayAt (terms s) p (order_turns s w.history) (w.moves p) (w.markets p).link
      (packets_on x) (IsUp s w.history p) (w.arrived p)) is (before.finds p)))
      (λ q other.
      other-way s e b (ended p w) lawful good q (before.good.good q).came other
      (good-same s w.history q (w.moves q) (w.moves q) (w.markets q) ((ended p w).markets q) (w.connections q)
      ((ended p w).connections q) refl
      (at-other p q (sim_step (w.markets p) sims.Gone None).state w.markets other)
      (at-other p q None w.connections other) (before.good.good q))
      (ways-same (terms s) q (order_turns s w.history) (w.moves q) (w.moves q) (w.markets q).link
      ((ended p w).markets q).link (w.connections q) ((ended p w).connections q) (IsUp s w.history q) (w.arrived q)
      (w.arrived q) refl
      (ap (λ (m : SimState). m.link) (at-other p q (sim_step (w.markets p) sims.Gone None).state w.markets other))
      (at-other p q None w.connections other) refl (before.finds q)))
    where
      e : Event
      e = PortGone p c.link w.now

-- ---- all steps

short-turns : (s : Settings) (h : History) → length (order_turns s h) < 2 ^ 59
short-turns s h = let few : length (order_turns s h) ≤ 2 ^ 48 = turns-short s h in omega (arith, few)

module _ (s : Settings) (w after : World) (lawful : Lawful s after.history) (good : IsGood s after) (was : Lawful s w.history → Before s w) where
  none-finds : after ≡ w → (q : ℕ) → FindsAt s after q
  none-finds is = subst (λ (x : World). (q : ℕ) → FindsAt s x q) (sym is)
      (was (subst (λ (x : World). Lawful s x.history) is lawful)).finds

  core-finds : (e : Event) (x : World) → x.history ≡ w.history → (k : CoreGets s e x after)
      → (Lawful s (record { event = e; batch = k.batch } ∷ w.history) → IsGood s (core_steps s e k.batch x) → Before s w
      → (q : ℕ) → FindsAt s (core_steps s e k.batch x) q) → (q : ℕ) → FindsAt s after q
  core-finds e x same k does =
      let all : Lawful s (record { event = e; batch = k.batch } ∷ w.history) =
      subst (λ (h : History). Lawful s (record { event = e; batch = k.batch } ∷ h)) same
      (step-lawful s e x after k lawful) in
      subst (λ (y : World). (q : ℕ) → FindsAt s y q) (sym k.is_after)
      (does all (subst (IsGood s) k.is_after good)
      (was (earlier s w.history (record { event = e; batch = k.batch }) all)))

  on-port : (p : ℕ) (does : Type 0) → (has_port s p ≡ true → does → (q : ℕ) → FindsAt s after q)
      → ForPort (has_port s p) does w after → (q : ℕ) → FindsAt s after q
  on-port p does finds happens = by_has (has_port s p) refl happens
    where
      by_has : (c : Bool) → has_port s p ≡ c → ForPort c does w after → (q : ℕ) → FindsAt s after q
      by_has true has k = finds has k
      by_has false has k = none-finds k

  client-step : (e : Event) → ClientOf s e (is_clients e) w after → (q : ℕ) → FindsAt s after q
  client-step e happens = by_kind (is_clients e) refl happens
    where
      by_kind : (c : Bool) → is_clients e ≡ c → ClientOf s e c w after → (q : ℕ) → FindsAt s after q
      by_kind true is k = core-finds e (record w { now = later w.now (moment_of e) }) refl k
          (λ all good_after before. client-finds s w before k.batch e (later w.now (moment_of e)) is all good_after)
      by_kind false is k = none-finds k

  connect-step : (p : ℕ) → ConnectOf s p (w.connections p) w after → (q : ℕ) → FindsAt s after q
  connect-step p happens = by_connection (w.connections p) refl happens
    where
      by_connection : (x : Option Connection) → w.connections p ≡ x → ConnectOf s p x w after → (q : ℕ)
          → FindsAt s after q
      by_connection None is k = core-finds (PortUp p (w.links p + 1) w.now) (connected p w) refl k
          (λ all good_after before. connect-finds s w before k.batch p is all good_after)
      by_connection (Some c) is k = none-finds k

  to-core-step : (p : ℕ) → has_port s p ≡ true → ToCoreOf s p (w.connections p) w after → (q : ℕ) → FindsAt s after q
  to-core-step p has happens = by_connection (w.connections p) refl happens
    where
      by_packets : (c : Connection) → w.connections p ≡ Some c → (xs : List Packet) → c.to_core ≡ xs
          → DeliversToCore s p c xs w after → (q : ℕ) → FindsAt s after q
      by_packets c is [] way k = none-finds k
      by_packets c is (packet ∷ rest) way k = core-finds (PortPacket p c.link w.now packet)
          (with_connection p (record c { to_core = rest }) w) refl k
          (λ all good_after before. packet-finds s w before k.batch p c packet rest has is way all good_after)

      by_connection : (x : Option Connection) → w.connections p ≡ x → ToCoreOf s p x w after → (q : ℕ)
          → FindsAt s after q
      by_connection None is k = none-finds k
      by_connection (Some c) is k = by_packets c is c.to_core refl k

  lose-step : (p : ℕ) → LoseOf s p (w.connections p) w after → (q : ℕ) → FindsAt s after q
  lose-step p happens = by_connection (w.connections p) refl happens
    where
      by_connection : (x : Option Connection) → w.connections p ≡ x → LoseOf s p x w after → (q : ℕ) → FindsAt s after q
      by_connection None is k = none-finds k
      by_connection (Some c) is k = core-finds (PortGone p c.link w.now) (ended p w) refl k
          (λ all good_after before. lose-finds s w before k.batch p c is all good_after)

  -- a market's step leaves the gateway as it was
  lawful-before : (x : World) → x.history ≡ w.history → after ≡ x → Lawful s w.history
  lawful-before x same is = subst (Lawful s) (ap (λ (y : World). y.history) is ∙ same) lawful

  act-step : (p : ℕ) (choice : Choice) → after ≡ market_steps p (sims.Act choice) None None w → (q : ℕ)
      → FindsAt s after q
  act-step p choice is =
      let before = was (lawful-before (market_steps p (sims.Act choice) None None w) refl is) in
      let all = lawful-before (market_steps p (sims.Act choice) None None w) refl is in
      subst (λ (y : World). (q : ℕ) → FindsAt s y q) (sym is)
      (market-finds s p (sims.Act choice) None None w
      (way-moved (terms s) (order_turns s w.history) all.table.0 (short-turns s w.history) all.table.1 p (w.moves p)
      (before.good.good p).came (w.markets p).link (IsUp s w.history p) (w.arrived p) (packets_on (w.connections p))
      (Acts choice) tt (before.finds p))
      (λ q other. before.finds q))

  to-market-step : (p : ℕ) (choice : Choice) → ToMarketOf p choice (w.connections p) w after → (q : ℕ)
      → FindsAt s after q
  to-market-step p choice happens = by_connection (w.connections p) refl happens
    where
      by_packets : (c : Connection) → w.connections p ≡ Some c → (xs : List Carried) → c.to_market ≡ xs
          → DeliversToMarket p choice c xs w after → (q : ℕ) → FindsAt s after q
      by_packets c is [] way k = none-finds k
      by_packets c is (first ∷ rest) way k =
          subst (λ (y : World). (q : ℕ) → FindsAt s y q) (sym k.is_after)
          (market-finds s p (sims.Packet k.packet choice) k.read first.asks popped
          (subst (λ (x : Option Connection). WayAt (terms s) p (order_turns s w.history)
          (heard_on m.link k.packet k.read choice ++ w.moves p)
          (sim_step m (sims.Packet k.packet choice) k.read).state.link (packets_on x) (IsUp s w.history p)
          (arrived_with first.asks (heard_on m.link k.packet k.read choice) m.book (w.arrived p))) (sym connection_is)
          (relinked (terms s) p (order_turns s w.history) (heard_on m.link k.packet k.read choice ++ w.moves p) m.link
          (sim_step m (sims.Packet k.packet choice) k.read).state.link rest (IsUp s w.history p)
          (arrived_with first.asks (heard_on m.link k.packet k.read choice) m.book (w.arrived p))
          (stays-logged m k.packet k.read choice stays)
          (subst (λ (book : Machine). WayAt (terms s) p (order_turns s w.history)
          (heard_on m.link k.packet k.read choice ++ w.moves p) m.link rest (IsUp s w.history p)
          (arrived_with first.asks (heard_on m.link k.packet k.read choice) book (w.arrived p)))
          (sym here.after.book)
          (way-delivered (terms s) (order_turns s w.history) all.table.0 (short-turns s w.history) all.table.1 p
          (w.moves p) here.came m.link (IsUp s w.history p)
          (w.arrived p) first rest k.packet k.read choice k.is_packet k.are_bytes k.is_read came_first its_way))))
          (λ q other.
          ways-same (terms s) q (order_turns s w.history) (w.moves q) (w.moves q) (w.markets q).link (w.markets q).link
          (w.connections q) (popped.connections q) (IsUp s w.history q) (w.arrived q) (w.arrived q) refl refl
          (at-other p q (Some (record c { to_market = rest })) w.connections other) refl (before.finds q)))
        where
          popped : World
          popped = with_connection p (record c { to_market = rest }) w

          m : SimState
          m = w.markets p

          all : Lawful s w.history
          all = lawful-before (market_steps p (sims.Packet k.packet choice) k.read first.asks popped) refl k.is_after

          before : Before s w
          before = was all

          here : GoodAt s w.history p (w.moves p) (w.markets p) (Some c)
          here = subst (GoodAt s w.history p (w.moves p) (w.markets p)) is (before.good.good p)

          connection_is : popped.connections p ≡ Some (record c { to_market = rest })
          connection_is = at-own p (Some (record c { to_market = rest })) w.connections

          packets : Each (PacketFor (terms s) p (order_turns s w.history)) (first ∷ rest)
          packets = subst (Each (PacketFor (terms s) p (order_turns s w.history))) way here.way

          stays : (k.packet.kind == 79) ≡ false
          stays = no-logout (terms s) p (order_turns s w.history) k.packet first.bytes packets.0 k.is_packet

          came_all : Each (CameAsked (terms s) p (order_turns s w.history))
              (heard_on m.link k.packet k.read choice ++ w.moves p)
          came_all = came-heard (terms s) p (order_turns s w.history)
              (w.moves p) m.link k.packet first.bytes k.read choice packets.0 k.is_packet k.is_read here.came

          came_first : Each (CameAsked (terms s) p (order_turns s w.history)) (heard_on m.link k.packet k.read choice)
          came_first = (each-parts (CameAsked (terms s) p (order_turns s w.history))
              (heard_on m.link k.packet k.read choice) (w.moves p) came_all).0

          its_way : WayAt (terms s) p (order_turns s w.history) (w.moves p) (w.markets p).link (first ∷ rest)
              (IsUp s w.history p) (w.arrived p)
          its_way = subst (λ (xs : List Carried). WayAt (terms s) p (order_turns s w.history) (w.moves p)
              (w.markets p).link xs (IsUp s w.history p) (w.arrived p)) way
              (subst (λ (x : Option Connection). WayAt (terms s) p (order_turns s w.history) (w.moves p)
              (w.markets p).link (packets_on x) (IsUp s w.history p) (w.arrived p)) is (before.finds p))

      by_connection : (x : Option Connection) → w.connections p ≡ x → ToMarketOf p choice x w after → (q : ℕ)
          → FindsAt s after q
      by_connection None is k = none-finds k
      by_connection (Some c) is k = by_packets c is c.to_market refl k

  pub step-finds : (step : WorldStep) → Happens s step w after → (q : ℕ) → FindsAt s after q
  step-finds (Client e) k = client-step e k
  step-finds (Connect p) k = on-port p _ (λ has does. connect-step p does) k
  step-finds (ToMarket p choice) k = on-port p _ (λ has does. to-market-step p choice does) k
  step-finds (ToCore p) k = on-port p _ (λ has does. to-core-step p has does) k
  step-finds (Act p choice) k = on-port p _ (λ has does. act-step p choice does) k
  step-finds (Lose p) k = on-port p _ (λ has does. lose-step p does) k

opening-finds : (s : Settings) (q : ℕ) → FindsAt s opening_world q
opening-finds s q = record {
  waiting = record { kept = tt; given = λ a u i e. absurd i };
  kept = tt;
  given = λ up a u i e. absurd i;
  says = tt;
  ready = inl refl;
  fixed = tt;
  one = λ a b t u ia. absurd ia;
}

worlds-find : (s : Settings) → is_served s ≡ true → (steps : List WorldStep) (w : World) → LeadsTo s steps w
    → Lawful s w.history → (q : ℕ) → FindsAt s w q
worlds-find s served_by [] w is lawful = subst (λ (x : World). (q : ℕ) → FindsAt s x q) (sym is) (opening-finds s)
worlds-find s served_by (step ∷ earlier_steps) w leads lawful =
    step-finds s leads.0 w lawful (worlds-good s served_by (step ∷ earlier_steps) w leads lawful)
    (λ was. record {
      good = worlds-good s served_by earlier_steps leads.0 leads.1 was;
      finds =
          worlds-find s served_by earlier_steps leads.0 leads.1 was;
    }) step leads.2

pub find-one : (s : Settings) → is_served s ≡ true → (steps : List WorldStep) (w : World) → LeadsTo s steps w
    → Lawful s w.history → (p : ℕ) → FindOne w p
find-one s served_by steps w leads lawful p = (worlds-find s served_by steps w leads lawful p).one
