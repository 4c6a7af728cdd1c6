-- The two ends of a port's connection are in step: how the gateway's session, what is on its way and the market's end
-- stand to one another; and that
-- each event of the gateway keeps them so.
use Rattle.std.proofs.Common.{◌≡◌, ◌+◌, ◌==◌, ℕ, Bool, true, false, List, [], ◌∷◌, ◌++◌, map, reverse, refl, sym, ap}
use Rattle.std.proofs.Common.{◌∙◌, subst, Option, Some, None, ◌⊎◌, inl, inr, eq-eqb}
use Rattle.std.proofs.lemmas.List.{append-nil, reverse-reverse}
use Rattle.std.specs.Prelude.{◌||◌, if◌then◌else◌}
use Rattle.std.specs.List.{list_any}
use Rattle.order_law.specs.ouch_codec.declared.outbound.Outbound.{Outbound}
use Rattle.order_law.specs.History.{Asked}
use Rattle.soup_packets.specs.declared.packet.Packet.{Packet}
use Rattle.soup_packets.specs.Spelling.{packet_bytes}
use Rattle.soup_session.specs.declared.port_state.PortState.TheVariants.{Down, LoggingIn, Up}
use Rattle.soup_session.specs.declared.port_turn.PortOut.TheVariants as packets
use Rattle.soup_session.specs.States.{is_open, is_up}
use Rattle.soup_session.specs.Writing.{heartbeat, login, message_packet, padded_right}
use Rattle.soup_session.specs.Table.{LoginTerms, PortAnswer, PortStanding, arrives, blank, closes, heard_now, passed}
use Rattle.soup_session.specs.Table.{quiet_answer, says, sent_now, wanted}
use Rattle.market_sim.specs.declared.link.SimLink.{SimLink}
use Rattle.market_sim.specs.declared.link.SimLink.TheVariants.{NoLink, Connected, LoggedIn}
use Rattle.market_sim.specs.Sim.{accepts_login, market_session}
use Rattle.gate_law.specs.Events.{LinkOut}
use Rattle.gate_law.specs.Sessions.{to_port}
use Rattle.gate_law.specs.After.{is_close, unless_closed}
use Rattle.world_law.specs.World.{Carried, Connection, carried, next_asked}
use Rattle.world_law.proofs.Stands.{Alike, Ticked, wanted-next}
use Rattle.world_law.proofs.Behind.{AreBehind}

-- ---- how they stand

-- the session's login is on its way, and nothing else
pub record IsConnecting (terms : LoginTerms) (x : PortStanding) (count : ℕ) (market : SimLink) (c : Connection) : Type 0 where
  pub state : x.state ≡ LoggingIn
  pub login_packet : Carried
  pub to_market : c.to_market ≡ login_packet ∷ []
  pub is_login : login_packet.bytes ≡ packet_bytes
      (login (padded_right 6 terms.user) (padded_right 10 terms.password) x.session (count + 1))
  pub to_core : c.to_core ≡ []
  pub market_link : market ≡ Connected

-- the market has accepted it from the number that is wanted, and what isn't handled comes behind
pub record IsAnswered (x : PortStanding) (count : ℕ) (newer : List Outbound) (market : SimLink) (c : Connection) : Type 0 where
  pub state : x.state ≡ LoggingIn
  pub to_market : c.to_market ≡ []
  pub rest : List Packet
  pub to_core : c.to_core ≡ accepts_login (count + 1) ∷ rest
  pub behind : AreBehind rest (reverse newer)
  pub market_link : market ≡ LoggedIn

-- the session is up, the next sequenced packet has the number that is wanted, and what isn't handled is on its way
pub record IsServing (x : PortStanding) (newer : List Outbound) (market : SimLink) (c : Connection) : Type 0 where
  pub state : x.state ≡ Up
  pub number : x.number ≡ wanted x
  pub behind : AreBehind c.to_core (reverse newer)
  pub market_link : market ≡ LoggedIn

-- so many messages are handled, of the market's one session
pub record Counts (x : PortStanding) (count : ℕ) : Type 0 where
  pub wants : wanted x ≡ count + 1
  pub session : (x.session ≡ blank) ⊎ (x.session ≡ market_session)

pub record IsApart (link : Option ℕ) (x : PortStanding) (market : SimLink) : Type 0 where
  pub core_link : link ≡ None
  pub state : x.state ≡ Down
  pub market_link : market ≡ NoLink

abbrev pub OnConnection : LoginTerms → PortStanding → ℕ → List Outbound → SimLink → Connection → Type 0
OnConnection terms x count newer market c =
    IsConnecting terms x count market c ⊎ (IsAnswered x count newer market c ⊎ IsServing x newer market c)

abbrev pub InStep : LoginTerms → Option ℕ → PortStanding → ℕ → List Outbound → SimLink → Option Connection → Type 0
InStep terms link x count newer market None = Counts x count × IsApart link x market
InStep terms link x count newer market (Some c) =
    Counts x count × (link ≡ Some c.link) × OnConnection terms x count newer market c

-- ---- what a batch makes of a connection, and of the market's end

abbrev pub told : List LinkOut → List Asked → Option Connection → Option Connection
told outs asks None = None
told outs asks (Some c) = if list_any (is_close (Some c.link)) outs then None else Some
    (record c { to_market = c.to_market ++ carried c.link outs asks })

abbrev pub told_link : List LinkOut → Option Connection → SimLink → SimLink
told_link outs None market = market
told_link outs (Some c) market = if list_any (is_close (Some c.link)) outs then NoLink else market

-- ---- nothing is told

counts-alike : (x y : PortStanding) (count : ℕ) → Alike x y → Counts x count → Counts y count
counts-alike x y count a k = record {
  wants = ap (λ arrived. wanted (record x { arrived = arrived })) a.arrived ∙ k.wants;
  session = subst (λ session. (session ≡ blank) ⊎ (session ≡ market_session)) (sym a.session) k.session;
}

on-alike : (terms : LoginTerms) (x y : PortStanding) (count : ℕ) (newer : List Outbound) (market : SimLink)
    (c : Connection) → Alike x y → OnConnection terms x count newer market c → OnConnection terms y count newer market c
on-alike terms x y count newer market c a (inl k) = inl (record {
  state = a.state ∙ k.state;
  login_packet = k.login_packet;
  to_market = k.to_market;
  is_login = k.is_login ∙ ap (λ session. packet_bytes
      (login (padded_right 6 terms.user) (padded_right 10 terms.password) session (count + 1))) (sym a.session);
  to_core = k.to_core;
  market_link = k.market_link;
})
on-alike terms x y count newer market c a (inr (inl k)) =
    inr (inl (record {
      state = a.state ∙ k.state;
      to_market = k.to_market;
      rest = k.rest;
      to_core = k.to_core;
      behind =
          k.behind;
      market_link = k.market_link;
    }))
on-alike terms x y count newer market c a (inr (inr k)) = inr (inr (record {
  state = a.state ∙ k.state;
  number = a.number ∙ k.number ∙ ap (λ arrived. wanted (record x { arrived = arrived })) (sym a.arrived);
  behind = k.behind;
  market_link = k.market_link;
}))

pub none-told : (asks : List Asked) (connection : Option Connection) → told [] asks connection ≡ connection
none-told asks None = refl
none-told asks (Some c) = ap (λ (xs : List Carried). Some (record c { to_market = xs })) (append-nil c.to_market)

pub link-untold : (connection : Option Connection) (market : SimLink) → told_link [] connection market ≡ market
link-untold None market = refl
link-untold (Some c) market = refl

alike-step : (terms : LoginTerms) (link : Option ℕ) (x y : PortStanding) (count : ℕ) (newer : List Outbound)
    (market : SimLink) (connection : Option Connection) → Alike x y → InStep terms link x count newer market connection
    → InStep terms link y count newer market connection
alike-step terms link x y count newer market None a k = (
  counts-alike x y count a k.0,
  record {
    core_link = k.1.core_link;
    state = a.state ∙ k.1.state;
    market_link =
        k.1.market_link;
  },
)
alike-step terms link x y count newer market (Some c) a k =
    (counts-alike x y count a k.0, k.1, on-alike terms x y count newer market c a k.2)

-- moments pass
pub quiet-step : (terms : LoginTerms) (link : Option ℕ) (x y : PortStanding) (count : ℕ) (newer : List Outbound)
    (market : SimLink) (connection : Option Connection) (asks : List Asked) → Alike x y
    → InStep terms link x count newer market connection
    → InStep terms (unless_closed [] link) y count newer (told_link [] connection market) (told [] asks connection)
quiet-step terms link x y count newer market connection asks a k =
    subst (λ (m : SimLink). InStep terms link y count newer m (told [] asks connection))
    (sym (link-untold connection market))
    (subst (InStep terms link y count newer market) (sym (none-told asks connection))
    (alike-step terms link x y count newer market connection a k))

-- ---- messages are sent

abbrev pub message_lines : ℕ → List (List ℕ) → List LinkOut
message_lines link ms = to_port (Some link) (map (λ (m : List ℕ). packets.Packet (message_packet m)) ms)

no-close : (current link : ℕ) (ms : List (List ℕ)) → list_any (is_close (Some current)) (message_lines link ms) ≡ false
no-close current link [] = refl
no-close current link (m ∷ ms) = no-close current link ms

-- on a connection that serves
serving-told : (terms : LoginTerms) (x y : PortStanding) (count : ℕ) (newer : List Outbound) (market : SimLink)
    (c : Connection) (ms : List (List ℕ)) (asks : List Asked) → Counts y count → IsServing y newer market c
    → InStep terms (unless_closed (message_lines c.link ms) (Some c.link)) y count newer
    (told_link (message_lines c.link ms) (Some c) market) (told (message_lines c.link ms) asks (Some c))
serving-told terms x y count newer market c ms asks counts k =
    by_close (list_any (is_close (Some c.link)) (message_lines c.link ms)) (no-close c.link c.link ms)
  where
    by_close : (b : Bool) → b ≡ false
        → InStep terms (if b then None else Some c.link) y count newer (if b then NoLink else market)
        (if b then None else Some (record c {
          to_market =
              c.to_market ++ carried c.link (message_lines c.link ms) asks;
        }))
    by_close true e = absurd (cc)
    by_close false e = (
      counts,
      refl,
      inr (inr
          (record { state = k.state; number = k.number; behind = k.behind; market_link = k.market_link })),
    )

-- messages go out where the session is up
pub sends-step : (terms : LoginTerms) (link : Option ℕ) (x y : PortStanding) (count : ℕ) (newer : List Outbound)
    (market : SimLink) (connection : Option Connection) (ms : List (List ℕ)) (asks : List Asked)
    → Alike x y → (is_up x.state ≡ false → ms ≡ []) → InStep terms link x count newer market connection
    → (let outs : List LinkOut = to_port link (map (λ (m : List ℕ). packets.Packet (message_packet m)) ms) in
    InStep terms (unless_closed outs link) y count newer (told_link outs connection market)
    (told outs asks connection))
sends-step terms link x y count newer market None ms asks a silent k =
    let none : to_port link (map (λ (m : List ℕ). packets.Packet (message_packet m)) ms) ≡ [] =
    ap (λ l. to_port l (map (λ (m : List ℕ). packets.Packet (message_packet m)) ms)) k.1.core_link in
    subst (λ outs. InStep terms (unless_closed outs link) y count newer market None) (sym none)
    (alike-step terms link x y count newer market None a k)
sends-step terms link x y count newer market (Some c) ms asks a silent k = by_state k.2
  where
    lines : Option ℕ → List (List ℕ) → List LinkOut
    lines l messages = to_port l (map (λ (m : List ℕ). packets.Packet (message_packet m)) messages)

    -- nothing is sent before the session is up
    unsent : (is_up x.state ≡ false) → (let outs : List LinkOut =
        to_port link (map (λ (m : List ℕ). packets.Packet (message_packet m)) ms) in
        InStep terms (unless_closed outs link) y count newer (told_link outs (Some c) market) (told outs asks (Some c)))
    unsent down =
        let none : to_port link (map (λ (m : List ℕ). packets.Packet (message_packet m)) ms) ≡ [] =
        ap (λ messages. to_port link (map (λ (m : List ℕ). packets.Packet (message_packet m)) messages))
        (silent down) ∙ ap (λ l. to_port l []) k.1 in
        subst (λ outs. InStep terms (unless_closed outs link) y count newer (told_link outs (Some c) market)
        (told outs asks (Some c))) (sym none) (quiet-step terms link x y count newer market (Some c) asks a k)

    by_state : OnConnection terms x count newer market c
        → (let outs : List LinkOut = to_port link (map (λ (m : List ℕ). packets.Packet (message_packet m)) ms) in
        InStep terms (unless_closed outs link) y count newer (told_link outs (Some c) market)
        (told outs asks (Some c)))
    by_state (inl i) = unsent (ap is_up i.state)
    by_state (inr (inl i)) = unsent (ap is_up i.state)
    by_state (inr (inr i)) =
        subst (λ l. (let outs : List LinkOut = to_port l (map (λ (m : List ℕ). packets.Packet (message_packet m)) ms) in
        InStep terms (unless_closed outs l) y count newer (told_link outs (Some c) market)
        (told outs asks (Some c)))) (sym k.1)
        (serving-told terms x y count newer market c ms asks (counts-alike x y count a k.0) (record {
          state = a.state ∙ i.state;
          number = a.number ∙ i.number ∙ ap (λ arrived. wanted (record x { arrived = arrived })) (sym a.arrived);
          behind = i.behind;
          market_link = i.market_link;
        }))

-- ---- a link comes up

abbrev pub login_lines : LoginTerms → ℕ → PortStanding → List LinkOut
login_lines terms link x = to_port (Some link)
    (packets.Packet (login (padded_right 6 terms.user) (padded_right 10 terms.password) x.session (wanted x)) ∷ [])

-- `c` is the new connection
pub up-step : (terms : LoginTerms) (link : Option ℕ) (x : PortStanding) (count at : ℕ) (newer : List Outbound)
    (market : SimLink) (c : Connection) (asks : List Asked) → c.to_market ≡ [] → c.to_core ≡ []
    → InStep terms link x count newer market None
    → InStep terms (unless_closed (login_lines terms c.link x) (Some c.link))
    (record (sent_now (heard_now (passed at x))) { state = LoggingIn }) count newer
    (told_link (login_lines terms c.link x) (Some c) Connected) (told (login_lines terms c.link x) asks (Some c))
up-step terms link x count at newer market c asks empty none k = (
  record { wants = k.0.wants; session = k.0.session },
  refl,
  inl (record {
    state = refl;
    login_packet = record {
      bytes = packet_bytes
          (login (padded_right 6 terms.user) (padded_right 10 terms.password) x.session (wanted x));
      asks =
          next_asked asks;
    };
    to_market = ap (λ (xs : List Carried). xs ++ carried c.link (login_lines terms c.link x) asks) empty ∙ own;
    is_login = ap (λ (n : ℕ). packet_bytes (login (padded_right 6 terms.user)
        (padded_right 10 terms.password) x.session n)) k.0.wants;
    to_core = none;
    market_link = refl;
  }),
)
  where
    own : carried c.link (login_lines terms c.link x) asks
        ≡ record {
          bytes = packet_bytes (login (padded_right 6 terms.user) (padded_right 10 terms.password) x.session
              (wanted x));
          asks = next_asked asks;
        } ∷ []
    own = let same = eq-eqb c.link c.link refl in rw same refl

-- ---- it is gone

on-open : (terms : LoginTerms) (x : PortStanding) (count : ℕ) (newer : List Outbound) (market : SimLink)
    (c : Connection) → OnConnection terms x count newer market c → is_open x.state ≡ true
on-open terms x count newer market c (inl k) = ap is_open k.state
on-open terms x count newer market c (inr (inl k)) = ap is_open k.state
on-open terms x count newer market c (inr (inr k)) = ap is_open k.state

-- a session of a port that has a connection is open
pub step-open : (terms : LoginTerms) (link : Option ℕ) (x : PortStanding) (count : ℕ) (newer : List Outbound)
    (market : SimLink) (c : Connection) → InStep terms link x count newer market (Some c) → is_open x.state ≡ true
step-open terms link x count newer market c k = on-open terms x count newer market c k.2

-- the port and its market are apart
pub gone-step : (terms : LoginTerms) (link : Option ℕ) (x y : PortStanding) (count : ℕ) (newer : List Outbound)
    (market : SimLink) (c : Connection) → y.state ≡ Down → y.session ≡ x.session → y.arrived ≡ x.arrived
    → InStep terms link x count newer market (Some c) → InStep terms None y count newer NoLink None
gone-step terms link x y count newer market c down session arrived k = (
  record {
    wants = ap (λ arrived. wanted (record x { arrived = arrived })) arrived ∙ k.0.wants;
    session = subst (λ session. (session ≡ blank) ⊎ (session ≡ market_session)) (sym session) k.0.session;
  },
  record { core_link = refl; state = down; market_link = refl },
)

-- ---- time passes

module _ (terms : LoginTerms) (link : Option ℕ) (x : PortStanding) (count at : ℕ) (newer : List Outbound) (market : SimLink) (asks : List Asked) where
  abbrev pub Told : PortAnswer → Option ℕ → Option Connection → Type 0
  Told a l connection = InStep terms (unless_closed (to_port l a.outs) l) a.after count newer
      (told_link (to_port l a.outs) connection market) (told (to_port l a.outs) asks connection)

  to-nobody : (l : Option ℕ) → to_port l [] ≡ []
  to-nobody None = refl
  to-nobody (Some n) = refl

  -- an answer by which nothing is written
  pub unsaid-step : (y : PortStanding) (connection : Option Connection) → Alike x y
      → InStep terms link x count newer market connection → Told (quiet_answer y) link connection
  unsaid-step y connection a k =
      subst (λ outs. InStep terms (unless_closed outs link) y count newer (told_link outs connection market)
      (told outs asks connection)) (sym (to-nobody link))
      (quiet-step terms link x y count newer market connection asks a k)

  closed-step : (y : PortStanding) (c : Connection) → y.session ≡ x.session → y.arrived ≡ x.arrived
      → InStep terms link x count newer market (Some c) → Told (closes Down y) link (Some c)
  closed-step y c session arrived k = subst (λ l. Told (closes Down y) l (Some c)) (sym k.1)
      (by_number (c.link == c.link) (eq-eqb c.link c.link refl))
    where
      by_number : (b : Bool) → b ≡ true → InStep terms (if b || false then None else Some c.link)
          (closes Down y).after count newer (if b || false then NoLink else market)
          (if b || false then None else Some (record c { to_market = c.to_market ++ [] }))
      by_number true e = gone-step terms link x (closes Down y).after count newer market c refl session arrived k
      by_number false e = absurd (cc)

  beat-step : (y : PortStanding) (c : Connection) → Alike x y → is_up x.state ≡ true
      → InStep terms link x count newer market (Some c) → Told (says heartbeat y) link (Some c)
  beat-step y c a up k = subst (λ l. Told (says heartbeat y) l (Some c)) (sym k.1) (by_state k.2)
    where
      by_state : OnConnection terms x count newer market c → Told (says heartbeat y) (Some c.link) (Some c)
      by_state (inl i) = absurd (let e : false ≡ true = sym (ap is_up i.state) ∙ up in cc)
      by_state (inr (inl i)) = absurd (let e : false ≡ true = sym (ap is_up i.state) ∙ up in cc)
      by_state (inr (inr i)) = (
        counts-alike x y count a k.0,
        refl,
        inr (inr (record {
          state = a.state ∙ i.state;
          number = a.number ∙ i.number ∙ ap (λ arrived. wanted (record x { arrived = arrived })) (sym a.arrived);
          behind = i.behind;
          market_link = i.market_link;
        })),
      )

  pub tick-step : (a : PortAnswer) (c : Connection) → Ticked (passed at x) a
      → InStep terms link x count newer market (Some c) → Told a link (Some c)
  tick-step a c (inl e) k = subst (λ r. Told r link (Some c)) (sym e)
      (unsaid-step (passed at x) (Some c) (record { state = refl; session = refl; arrived = refl; number = refl }) k)
  tick-step a c (inr (inl e)) k = subst (λ r. Told r link (Some c)) (sym e) (closed-step (passed at x) c refl refl k)
  tick-step a c (inr (inr e)) k = subst (λ r. Told r link (Some c)) (sym e.0)
      (beat-step (sent_now (passed at x)) c (record { state = refl; session = refl; arrived = refl; number = refl }) e.1
      k)

-- ---- a packet comes from the market

-- the market's Login Accepted, and messages may be sent
pub accepted-step : (terms : LoginTerms) (link : Option ℕ) (x y : PortStanding) (count : ℕ) (newer : List Outbound)
    (market : SimLink) (c : Connection) (rest : List Packet)
    → y.state ≡ Up → y.session ≡ market_session → y.arrived ≡ x.arrived → y.number ≡ count + 1
    → AreBehind rest (reverse newer) → market ≡ LoggedIn
    → InStep terms link x count newer market (Some c)
    → InStep terms link y count newer market (Some (record c { to_core = rest }))
accepted-step terms link x y count newer market c rest up session arrived number behind logged k =
    let wants : wanted y ≡ count + 1 = ap (λ arrived. wanted (record x { arrived = arrived })) arrived ∙ k.0.wants in (
      record { wants = wants; session = inr session },
      k.1,
      inr
          (inr (record { state = up; number = number ∙ sym wants; behind = behind; market_link = logged })),
    )

-- a heartbeat
pub beaten-step : (terms : LoginTerms) (link : Option ℕ) (x y : PortStanding) (count : ℕ) (newer : List Outbound)
    (market : SimLink) (c : Connection) (rest : List Packet) → Alike x y → IsServing x newer market c
    → AreBehind rest (reverse newer)
    → InStep terms link x count newer market (Some c)
    → InStep terms link y count newer market (Some (record c { to_core = rest }))
beaten-step terms link x y count newer market c rest a i behind k = (
  counts-alike x y count a k.0,
  k.1,
  inr (inr (record {
    state = a.state ∙ i.state;
    number = a.number ∙ i.number ∙ ap (λ arrived. wanted (record x { arrived = arrived })) (sym a.arrived);
    behind = behind;
    market_link = i.market_link;
  })),
)

-- a sequenced packet with the number that is wanted: its message is handled
pub sequenced-step : (terms : LoginTerms) (link : Option ℕ) (x : PortStanding) (count at : ℕ)
    (newer later : List Outbound) (market : SimLink) (c : Connection) (rest : List Packet) (payload : List ℕ)
    → IsServing x newer market c → AreBehind rest later
    → InStep terms link x count newer market (Some c)
    → InStep terms link (arrives (heard_now (passed at x)) payload).after (count + 1) (reverse later) market
    (Some (record c { to_core = rest }))
sequenced-step terms link x count at newer later market c rest payload i behind k =
    let next : wanted (arrives (heard_now (passed at x)) payload).after ≡ wanted x + 1 =
    wanted-next (heard_now (passed at x)) payload i.number in (
      record { wants = next ∙ ap (λ (n : ℕ). n + 1) k.0.wants; session = k.0.session },
      k.1,
      inr (inr (record {
        state = i.state;
        number = ap (λ (n : ℕ). n + 1) i.number ∙ sym next;
        behind = subst (AreBehind rest) (sym (reverse-reverse later)) behind;
        market_link = i.market_link;
      })),
    )
