-- Each event of a market's end keeps the two ends of its connection in step.
use Rattle.std.proofs.Common.{◌≡◌, ◌≤◌, ◌<◌, ◌+◌, ◌-◌, ◌^◌, ◌==◌, ℕ, Bool, true, false, List, [], ◌∷◌, ◌++◌, length}
use Rattle.std.proofs.Common.{map, drop, reverse, refl, sym, ap, ◌∙◌, subst, arith, Option, Some, None, ◌⊎◌, inl, inr}
use Rattle.std.proofs.lemmas.List.{append-nil, length-reverse, length-append, length-map, reverse-append}
use Rattle.std.specs.Prelude.{if◌then◌else◌}
use Rattle.order_law.specs.ouch_codec.declared.inbound.Inbound.{Inbound}
use Rattle.order_law.specs.ouch_codec.declared.outbound.Outbound.{Outbound}
use Rattle.order_law.specs.History.{OrderHistory, Terms}
use Rattle.soup_packets.specs.declared.packet.Packet.{Packet}
use Rattle.soup_packets.specs.Spelling.{packet_bytes, same_packet}
use Rattle.soup_session.specs.declared.port_state.PortState.TheVariants.{LoggingIn}
use Rattle.soup_session.specs.Writing.{login, padded_right}
use Rattle.soup_session.specs.Table.{LoginTerms, PortStanding}
use Rattle.market_law.specs.declared.choice.Choice.{Choice}
use Rattle.market_law.specs.Machine.{Machine, inbound}
use Rattle.market_law.specs.Run.{Move, Comes, moves, ran}
use Rattle.market_sim.specs.declared.event.SimEvent.{SimEvent}
use Rattle.market_sim.specs.declared.event.SimEvent.TheVariants as events
use Rattle.market_sim.specs.declared.link.SimLink.{SimLink}
use Rattle.market_sim.specs.declared.link.SimLink.TheVariants.{NoLink, Connected, LoggedIn}
use Rattle.market_sim.specs.Outbound.{outbound_bytes}
use Rattle.market_sim.specs.Sim.{SimState, SimStep, accepts_login, answers_login, booked, hears, on_packet}
use Rattle.market_sim.specs.Sim.{sends_nothing, sent_on, sequenced_packet, server_heartbeat}
use Rattle.market_sim.proofs.Few.{few-inbound}
use Rattle.world_law.specs.Asked.{BytesAsked}
use Rattle.world_law.specs.Moves.{IsAfterMoves, heard_on, moves_by}
use Rattle.world_law.specs.World.{Carried, Connection, goes_out}
use Rattle.world_law.proofs.Behind.{AreBehind, beat-behind, more-behind, sequenced-behind}
use Rattle.world_law.proofs.InStep.{Counts, InStep, IsServing, OnConnection}
use Rattle.world_law.proofs.Logins.{login-asks}
use Rattle.world_law.proofs.Moving.{few-reversed, not-handled}

-- ---- what a market says by an event

abbrev pub said_in : Machine → List Move → List Outbound
said_in m [] = []
said_in m (move ∷ more) = (moves m move).says

heard-said : (ms : List Move) (link : SimLink) (packet : Packet) (read : Option Inbound) (choice : Choice)
    → (ran (heard_on link packet read choice ++ ms)).said
    ≡ said_in (ran ms).machine (heard_on link packet read choice) ++ (ran ms).said
heard-said ms NoLink packet read choice = refl
heard-said ms Connected packet read choice = refl
heard-said ms LoggedIn packet None choice = refl
heard-said ms LoggedIn packet (Some message) choice = by_kind (packet.kind == 85)
  where
    by_kind : (b : Bool) → (ran ((if b then Comes message choice ∷ [] else []) ++ ms)).said
        ≡ said_in (ran ms).machine (if b then Comes message choice ∷ [] else []) ++ (ran ms).said
    by_kind true = refl
    by_kind false = refl

-- it says so behind all that it said before
pub said-more : (ms : List Move) (m : SimState) (e : SimEvent) (read : Option Inbound) → IsAfterMoves ms m
    → (ran (moves_by m e read ++ ms)).said ≡ said_in m.book (moves_by m e read) ++ (ran ms).said
said-more ms m e read after = by_event e ∙ ap (λ (book : Machine). said_in book (moves_by m e read) ++ (ran ms).said)
    (sym after.book)
  where
    by_event : (e : SimEvent) → (ran (moves_by m e read ++ ms)).said
        ≡ said_in (ran ms).machine (moves_by m e read) ++ (ran ms).said
    by_event events.Up = refl
    by_event (events.Packet packet choice) = heard-said ms m.link packet read choice
    by_event (events.Act choice) = refl
    by_event events.Gone = refl

-- ---- the market says something

module _ (terms : LoginTerms) (link : Option ℕ) (x : PortStanding) (count : ℕ) (newer : List Outbound) where
  newer-last : (says : List Outbound) → length says ≤ 1 → reverse newer ++ says ≡ reverse (says ++ newer)
  newer-last says few = ap (λ (xs : List Outbound). reverse newer ++ xs) (sym (few-reversed says few))
      ∙ sym (reverse-append says newer)

  pub said-step : (market : SimLink) (connection : Option Connection) (says : List Outbound) → length says ≤ 1
      → InStep terms link x count newer market connection
      → InStep terms link x count (says ++ newer) market
      (goes_out (sent_on market (map outbound_bytes says)) connection)
  said-step market None says few k = k
  said-step market (Some c) says few k = (k.0, k.1, by_state k.2)
    where
      packets : List Packet
      packets = sent_on market (map outbound_bytes says)

      by_state : OnConnection terms x count newer market c
          → OnConnection terms x count (says ++ newer) market
          (record c { to_core = c.to_core ++ sent_on market (map outbound_bytes says) })
      by_state (inl i) = inl (record {
        state = i.state;
        login_packet = i.login_packet;
        to_market = i.to_market;
        is_login = i.is_login;
        to_core = ap (λ (l : SimLink). c.to_core ++ sent_on l (map outbound_bytes says)) i.market_link
            ∙ append-nil c.to_core ∙ i.to_core;
        market_link = i.market_link;
      })
      by_state (inr (inl i)) = inr (inl (record {
        state = i.state;
        to_market = i.to_market;
        rest = i.rest ++ map sequenced_packet (map outbound_bytes says);
        to_core =
            ap (λ (l : SimLink). c.to_core ++ sent_on l (map outbound_bytes says)) i.market_link
            ∙ ap (λ (xs : List Packet). xs ++ map sequenced_packet (map outbound_bytes says)) i.to_core;
        behind = subst (AreBehind (i.rest ++ map sequenced_packet (map outbound_bytes says))) (newer-last says few)
            (more-behind i.rest (reverse newer) says i.behind);
        market_link = i.market_link;
      }))
      by_state (inr (inr i)) = inr (inr (record {
        state = i.state;
        number = i.number;
        behind =
            subst (λ (l : SimLink). AreBehind (c.to_core ++ sent_on l (map outbound_bytes says))
            (reverse (says ++ newer))) (sym i.market_link)
            (subst (AreBehind (c.to_core ++ map sequenced_packet (map outbound_bytes says))) (newer-last says few)
            (more-behind c.to_core (reverse newer) says i.behind));
        market_link = i.market_link;
      }))

  -- it says nothing
  pub unsaid : (market : SimLink) (connection : Option Connection) → InStep terms link x count newer market connection
      → InStep terms link x count newer market (goes_out [] connection)
  unsaid market None k = k
  unsaid market (Some c) k = subst (λ (xs : List Packet). InStep terms link x count newer market
      (Some (record c { to_core = xs }))) (sym (append-nil c.to_core)) k

  -- it sends a heartbeat to a session that is up
  pub beaten : (market : SimLink) (c : Connection) → Counts x count → link ≡ Some c.link → IsServing x newer market c
      → InStep terms link x count newer market (goes_out (server_heartbeat ∷ []) (Some c))
  beaten market c counts same i = (
    counts,
    same,
    inr
        (inr (record {
          state = i.state;
          number = i.number;
          behind =
              beat-behind c.to_core (reverse newer) i.behind;
          market_link = i.market_link;
        })),
  )

-- ---- packets on their way to the market

-- a login, a heartbeat, or a message that the port was asked
pub record IsForMarket (terms : List Terms) (p : ℕ) (h : OrderHistory) (bytes : List ℕ) : Type 0 where
  pub packet : Packet
  pub is_packet : packet_bytes packet ≡ bytes
  pub has_kind : (packet.kind ≡ 76) ⊎ ((packet.kind ≡ 82) ⊎ ((packet.kind ≡ 85) × BytesAsked terms p h packet.payload))

-- ---- one is delivered

-- what an event makes of the connection's ends, where the market had this link and this connection, from which the
-- packet is taken
module _ (terms : LoginTerms) (link : Option ℕ) (x : PortStanding) (handled newer : List Outbound) (m : SimState) (d : Connection) where
  abbrev Leaves : List Move → SimStep → Type 0
  Leaves vs step = InStep terms link x (length handled) (said_in m.book vs ++ newer) step.state.link
      (goes_out step.packets (Some d))

  -- to a market that serves a session which is up
  module _ (packet : Packet) (choice : Choice) (counts : Counts x (length handled)) (same : link ≡ Some d.link) (i : IsServing x newer m.link d) where
    here : InStep terms link x (length handled) newer m.link (Some d)
    here = (counts, same, inr (inr i))

    unheard : (beats leaves : Bool) → leaves ≡ false
        → Leaves [] (if beats then record { state = m; packets = server_heartbeat ∷ [] } else if leaves then
        sends_nothing (record m { link = NoLink }) else sends_nothing m)
    unheard true leaves e = beaten terms link x (length handled) newer m.link d counts same i
    unheard false true e = absurd (cc)
    unheard false false e = unsaid terms link x (length handled) newer m.link (Some d) here

    read-step : (read : Option Inbound) (says beats leaves : Bool) → leaves ≡ false → (packet.kind == 85) ≡ says
        → Leaves (heard_on LoggedIn packet read choice)
        (if says then hears m read choice else if beats then record { state = m; packets = server_heartbeat ∷ [] } else
        if leaves then sends_nothing (record m { link = NoLink }) else sends_nothing m)
    read-step None true beats leaves e is = unsaid terms link x (length handled) newer m.link (Some d) here
    read-step None false beats leaves e is = unheard beats leaves e
    read-step (Some message) true beats leaves e is =
        subst (λ (b : Bool). Leaves (if b then Comes message choice ∷ [] else [])
        (booked m (inbound m.book message choice))) (sym is)
        (said-step terms link x (length handled) newer m.link (Some d) (inbound m.book message choice).says
        (few-inbound m.book message choice) here)
    read-step (Some message) false beats leaves e is =
        subst (λ (b : Bool). Leaves (if b then Comes message choice ∷ [] else [])
        (if beats then record { state = m; packets = server_heartbeat ∷ [] } else if leaves then sends_nothing
        (record m { link = NoLink }) else sends_nothing m)) (sym is)
        (unheard beats leaves e)

    pub served-step : (read : Option Inbound) → (packet.kind == 79) ≡ false
        → Leaves (heard_on m.link packet read choice) (on_packet m m.link packet read choice)
    served-step read stays = subst (λ (l : SimLink). Leaves (heard_on l packet read choice)
        (on_packet m l packet read choice)) (sym i.market_link)
        (read-step read (packet.kind == 85) (packet.kind == 82) (packet.kind == 79) stays refl)

  -- to a market that waits for the login
  module _ (kept : m.kept ≡ map outbound_bytes (reverse (newer ++ handled))) (short_user : length terms.user ≤ 6) (short_password : length terms.password ≤ 10) (few : length handled + 1 < 2 ^ 63) where
    kept-length : length m.kept ≡ length newer + length handled
    kept-length =
        ap length kept ∙ length-map (reverse (newer ++ handled)) outbound_bytes ∙ length-reverse (newer ++ handled)
        ∙ length-append newer handled

    behind-login : drop (length handled + 1 - 1) m.kept ≡ map outbound_bytes (reverse newer)
    behind-login = let n : length handled + 1 - 1 ≡ length handled = omega arith in
        ap (λ (k : ℕ). drop k m.kept) n ∙ ap (drop (length handled)) kept ∙ not-handled newer handled

    pub login-step : (packet : Packet) (read : Option Inbound) (choice : Choice)
        → packet ≡ login (padded_right 6 terms.user) (padded_right 10 terms.password) x.session (length handled + 1)
        → Counts x (length handled) → link ≡ Some d.link → x.state ≡ LoggingIn → d.to_market ≡ [] → d.to_core ≡ []
        → m.link ≡ Connected
        → Leaves (heard_on m.link packet read choice) (on_packet m m.link packet read choice)
    login-step packet read choice is counts same logging empty none connected =
        subst (λ (l : SimLink). Leaves (heard_on l packet read choice) (on_packet m l packet read choice))
        (sym connected)
        (subst (λ (y : Packet). Leaves [] (on_packet m Connected y read choice)) (sym is)
        (subst (λ (number : Option ℕ). Leaves [] (answers_login m number))
        (sym (login-asks terms.user terms.password x.session (length handled + 1)
        (length m.kept) short_user short_password counts.session (omega arith)
        (let k = kept-length in omega (arith, k)) few)) (
          counts,
          same,
          inr (inl (record {
            state = logging;
            to_market = empty;
            rest = map sequenced_packet (map outbound_bytes (reverse newer));
            to_core =
                ap (λ (xs : List Packet). xs ++ accepts_login (length handled + 1) ∷ map sequenced_packet
                (drop (length handled + 1 - 1) m.kept)) none
                ∙ ap (λ (xs : List (List ℕ)). accepts_login (length handled + 1) ∷ map sequenced_packet xs)
                behind-login;
            behind = sequenced-behind (reverse newer);
            market_link = refl;
          })),
        )))

    -- the oldest packet that is on its way
    pub delivered-step : (c : Connection) (first : Carried) (rest : List Carried) (packet : Packet)
        (read : Option Inbound) (choice : Choice) → c.to_market ≡ first ∷ rest → d ≡ record c { to_market = rest }
        → packet_bytes packet ≡ first.bytes
        → (packet.kind == 79) ≡ false → InStep terms link x (length handled) newer m.link (Some c)
        → Leaves (heard_on m.link packet read choice) (on_packet m m.link packet read choice)
    delivered-step c first rest packet read choice way popped is stays k = by_state k.2
      where
        same : link ≡ Some d.link
        same = k.1 ∙ ap (λ (y : Connection). Some y.link) (sym popped)

        by_state : OnConnection terms x (length handled) newer m.link c
            → Leaves (heard_on m.link packet read choice) (on_packet m m.link packet read choice)
        by_state (inl i) =
            let lists : first ∷ rest ≡ i.login_packet ∷ [] = sym way ∙ i.to_market in
            let its_first : first ≡ i.login_packet = cc in
            let its_rest : rest ≡ [] = cc in
            login-step packet read choice
            (same_packet packet (login (padded_right 6 terms.user) (padded_right 10 terms.password) x.session
            (length handled + 1)) (is ∙ ap (λ (y : Carried). y.bytes) its_first ∙ i.is_login))
            k.0 same i.state (ap (λ (y : Connection). y.to_market) popped ∙ its_rest)
            (ap (λ (y : Connection). y.to_core) popped ∙ i.to_core) i.market_link
        by_state (inr (inl i)) = absurd (let lists : first ∷ rest ≡ [] = sym way ∙ i.to_market in cc)
        by_state (inr (inr i)) = served-step packet choice k.0 same (record {
          state = i.state;
          number = i.number;
          behind = subst (λ (xs : List Packet). AreBehind xs (reverse newer))
              (ap (λ (y : Connection). y.to_core) (sym popped)) i.behind;
          market_link = i.market_link;
        }) read stays
