-- What is on its way to a port's market, what is outstanding on the port, and what came: each stands behind what it
-- needs, and stays so.
use Rattle.std.proofs.Common.{◌≡◌, ◌<◌, ◌^◌, ◌==◌, ℕ, Bool, true, false, List, [], ◌∷◌, ◌++◌, length, refl, sym, ap}
use Rattle.std.proofs.Common.{◌∙◌, subst, Option, Some, None, ◌⊎◌, inl, inr, ⊎_elim, eq-eqb}
use Rattle.std.proofs.lemmas.List.{append-nil}
use Rattle.std.specs.Prelude.{if◌then◌else◌}
use Rattle.std.specs.List.{list_all}
use Rattle.order_law.specs.ouch_codec.declared.inbound.Inbound.{Inbound}
use Rattle.order_law.specs.ouch_codec.declared.outbound.Outbound.{Outbound}
use Rattle.order_law.specs.ouch_codec.Inbound.{inbound_bytes}
use Rattle.order_law.specs.ouch_codec.Values.{is_byte}
use Rattle.order_law.specs.Asks.{ask_of_bytes}
use Rattle.order_law.specs.History.{Asked, OrderHistory, OrderTurn, Terms, accepted, asks_of, entry_at, handled, issued}
use Rattle.order_law.specs.History.{outstanding}
use Rattle.order_law.specs.Headline.{Each, HasTokens, TurnOf}
use Rattle.order_machine.specs.Runs.{TurnsLeave}
use Rattle.order_machine.specs.Table.{TableState}
use Rattle.soup_packets.specs.declared.packet.Packet.{Packet}
use Rattle.soup_packets.specs.Spelling.{packet_bytes, same_packet}
use Rattle.market_law.specs.declared.choice.Choice.{Choice}
use Rattle.market_law.specs.Machine.{Machine}
use Rattle.market_law.specs.Run.{Move, Comes, moves, ran}
use Rattle.market_law.proofs.Basics.{each-all, each-join}
use Rattle.market_sim.specs.declared.link.SimLink.{SimLink}
use Rattle.market_sim.specs.declared.link.SimLink.TheVariants.{NoLink, Connected, LoggedIn}
use Rattle.market_sim.specs.Sim.{IsReadAs}
use Rattle.world_law.specs.Asked.{CameAsked, IsIn, asked, sender}
use Rattle.world_law.proofs.Members.{in-left, in-parts}
use Rattle.world_law.specs.Moves.{heard_on}
use Rattle.world_law.specs.World.{Arrival, Carried, arrived_with}
use Rattle.world_law.proofs.Naming.{asks-as-asked, gives, newly-asked}
use Rattle.world_law.proofs.NeverLive.{AsksAsAsked, IsDecided, decided-kept}
use Rattle.world_law.proofs.Queues.{IsQueue, KeptFrom, NamedIn, decided-more, kept-more, never-more, queue-moved}
use Rattle.world_law.proofs.Requests.{request-new}
use Rattle.world_law.proofs.Waiting.{turn-asked, turn-kept, turn-queue}
use Rattle.world_law.proofs.Arriving.{CarriesIt, FindsOne, IsFixed, and_asked, asks_in, comes-decides, fixed-kept}
use Rattle.world_law.proofs.Arriving.{fixes, finds-more, in-carried, unread-gives}

-- each token that was asked for is decided, or asked for in the list
abbrev pub Given : List Asked → Machine → List Asked → Type 0
Given asks m L = (a : Asked) (u : List ℕ) → IsIn a asks → gives a.said ≡ Some u → IsDecided asks m u ⊎ NamedIn L u

-- `Up` says that the port's session is up: what is on its way then has all that was asked for and isn't decided
pub record WayAt (ts : List Terms) (port : ℕ) (h : OrderHistory) (ms : List Move) (link : SimLink) (packets : List Carried) (Up : Type 0) (arrived : List Arrival) : Type 0 where
  pub waiting : IsQueue (asked ts port h) (ran ms).machine (outstanding ts port h)
  pub kept : KeptFrom (asked ts port h) (IsDecided (asked ts port h) (ran ms).machine) (asks_in packets)
  pub given : Up → Given (asked ts port h) (ran ms).machine (asks_in packets)
  pub says : Each (CarriesIt ts port h) packets
  pub ready : (asks_in packets ≡ []) ⊎ (link ≡ LoggedIn)
  pub fixed : Each (IsFixed (asked ts port h) (ran ms).machine) arrived
  pub one : FindsOne arrived

-- the market's end is logged in, if anything that is on its way asks something
abbrev pub IsReady : List Terms → ℕ → OrderHistory → List Carried → SimLink → Type 0
IsReady ts port h packets link = Each (CarriesIt ts port h) packets → (asks_in packets ≡ []) ⊎ (link ≡ LoggedIn)

-- ---- the market

module _ (ts : List Terms) (h : OrderHistory) (s : TableState) (short : length h < 2 ^ 59) (leaves : TurnsLeave ts h s)
    (port : ℕ) (before : List Move) (came : Each (CameAsked ts port h) before)
    (link : SimLink) (Up : Type 0) (arrived : List Arrival) where
  abbrev AS : List Asked
  AS = asked ts port h

  -- its machine moves
  pub way-moved : (packets : List Carried) (v : Move) → CameAsked ts port h v
      → WayAt ts port h before link packets Up arrived → WayAt ts port h (v ∷ before) link packets Up arrived
  way-moved packets v w k = record {
    waiting = queue-moved (asked ts port h) (ran before).machine (outstanding ts port h) v asks_as k.waiting;
    kept = kept-more (asked ts port h) (IsDecided (asked ts port h) (ran before).machine)
        (IsDecided (asked ts port h) (moves (ran before).machine v).machine) (asks_in packets)
        (λ u d. decided-kept (asked ts port h) (ran before).machine v asks_as u d) k.kept;
    given = λ up a u i e. ⊎_elim (λ d. inl (decided-kept (asked ts port h) (ran before).machine v asks_as u d))
        (λ n. inr n) (k.given up a u i e);
    says = k.says;
    ready = k.ready;
    fixed = fixed-kept ts h s short leaves port before came v w arrived k.fixed;
    one = k.one;
  }
    where
      asks_as : AsksAsAsked (asked ts port h) v
      asks_as = asks-as-asked ts h s short leaves port v w

  -- a message that was asked comes to it
  pub way-came : (x : Carried) (rest : List Carried) (y : Asked) → x.asks ≡ Some y
      → (message : Inbound) (choice : Choice) → CameAsked ts port h (Comes message choice)
      → HasTokens y.said (inbound_bytes message)
      → WayAt ts port h before link (x ∷ rest) Up arrived
      → WayAt ts port h (Comes message choice ∷ before) link rest Up
      (record { asks = y; before = (ran before).machine } ∷ arrived)
  way-came x rest y is message choice w tokens k = record {
    waiting = queue-moved (asked ts port h) (ran before).machine (outstanding ts port h) v asks_as k.waiting;
    kept = kept-more (asked ts port h) (λ u. IsDecided (asked ts port h) (ran before).machine u ⊎
        (gives y.said ≡ Some u)) (IsDecided (asked ts port h) (moves (ran before).machine v).machine) (asks_in rest)
        (λ u d. ⊎_elim (λ old. decided-kept (asked ts port h) (ran before).machine v asks_as u old)
        (λ e. decides u e) d) first.1;
    given = λ up a u i e. ⊎_elim (λ d. inl (decided-kept (asked ts port h) (ran before).machine v asks_as u d))
        (λ n. ⊎_elim (λ f. inl (decides u f)) (λ r. inr r) (subst (λ (L : List Asked). NamedIn L u) all n))
        (k.given up a u i e);
    says = k.says.1;
    ready = ready k.ready;
    fixed = fixed-kept ts h s short leaves port before came v w
        (record { asks = y; before = (ran before).machine } ∷ arrived)
        (fixes ts h s short leaves port before came y there first.0, k.fixed);
    one = finds-more ts h s short leaves port before came y there arrived k.fixed k.one;
  }
    where
      v : Move
      v = Comes message choice

      asks_as : AsksAsAsked (asked ts port h) v
      asks_as = asks-as-asked ts h s short leaves port v w

      there : IsIn y (asked ts port h)
      there = (k.says.0 y is).there

      all : and_asked x.asks (asks_in rest) ≡ y ∷ asks_in rest
      all = ap (λ (o : Option Asked). and_asked o (asks_in rest)) is

      first : KeptFrom (asked ts port h) (IsDecided (asked ts port h) (ran before).machine) (y ∷ asks_in rest)
      first = subst (KeptFrom (asked ts port h) (IsDecided (asked ts port h) (ran before).machine)) all k.kept

      decides : (u : List ℕ) → gives y.said ≡ Some u
          → IsDecided (asked ts port h) (moves (ran before).machine v).machine u
      decides u e = comes-decides ts h s short leaves port before came y there first.0 message choice tokens u e

      ready : (and_asked x.asks (asks_in rest) ≡ []) ⊎ (link ≡ LoggedIn) → (asks_in rest ≡ []) ⊎ (link ≡ LoggedIn)
      ready (inl none) = absurd (let f : y ∷ asks_in rest ≡ [] = sym all ∙ none in cc)
      ready (inr e) = inr e

  -- a packet is taken that asks for no token
  pub way-passed : (x : Carried) (rest : List Carried) → ((y : Asked) → x.asks ≡ Some y → gives y.said ≡ None)
      → WayAt ts port h before link (x ∷ rest) Up arrived → WayAt ts port h before link rest Up arrived
  way-passed x rest bare k = record {
    waiting = k.waiting;
    kept = kept x.asks refl k.kept;
    given = λ up a u i e. ⊎_elim (λ d. inl d) (λ n. inr (named x.asks refl u n)) (k.given up a u i e);
    says = k.says.1;
    ready = ready x.asks refl k.ready;
    fixed = k.fixed;
    one = k.one;
  }
    where
      none : (y : Asked) (u : List ℕ) → x.asks ≡ Some y → gives y.said ≡ Some u → ⊥
      none y u is e = let f : ◌≡◌ {A = Option (List ℕ)} None (Some u) = sym (bare y is) ∙ e in cc

      kept : (o : Option Asked) → x.asks ≡ o → KeptFrom (asked ts port h)
          (IsDecided (asked ts port h) (ran before).machine) (and_asked o (asks_in rest))
          → KeptFrom (asked ts port h) (IsDecided (asked ts port h) (ran before).machine) (asks_in rest)
      kept None is l = l
      kept (Some y) is l = kept-more (asked ts port h)
          (λ u. IsDecided (asked ts port h) (ran before).machine u ⊎ (gives y.said ≡ Some u))
          (IsDecided (asked ts port h) (ran before).machine) (asks_in rest)
          (λ u d. ⊎_elim (λ old. old) (λ e. absurd (none y u is e)) d) l.1

      named : (o : Option Asked) → x.asks ≡ o → (u : List ℕ) → NamedIn (and_asked o (asks_in rest)) u
          → NamedIn (asks_in rest) u
      named None is u n = n
      named (Some y) is u n = ⊎_elim (λ e. absurd (none y u is e)) (λ r. r) n

      ready : (o : Option Asked) → x.asks ≡ o → (and_asked o (asks_in rest) ≡ []) ⊎ (link ≡ LoggedIn)
          → (asks_in rest ≡ []) ⊎ (link ≡ LoggedIn)
      ready None is e = e
      ready (Some y) is (inl f) = absurd (cc)
      ready (Some y) is (inr e) = inr e

  -- the oldest packet is delivered
  pub way-delivered : (x : Carried) (rest : List Carried) (packet : Packet) (read : Option Inbound) (choice : Choice)
      → packet_bytes packet ≡ x.bytes → list_all is_byte packet.payload ≡ true → IsReadAs packet.payload read
      → Each (CameAsked ts port h) (heard_on link packet read choice)
      → WayAt ts port h before link (x ∷ rest) Up arrived
      → WayAt ts port h (heard_on link packet read choice ++ before) link rest Up
      (arrived_with x.asks (heard_on link packet read choice) (ran before).machine arrived)
  way-delivered x rest packet read choice is bytes reads w k = by_asks x.asks refl
    where
      -- one that asks nothing
      bare : x.asks ≡ None → (vs : List Move) → Each (CameAsked ts port h) vs → (vs ≡ []) ⊎ ((v : Move) × (vs ≡ v ∷ []))
          → WayAt ts port h (vs ++ before) link rest Up arrived
      bare none vs each (inl empty) = subst (λ (us : List Move). WayAt ts port h (us ++ before) link rest Up arrived)
          (sym empty) (way-passed x rest (λ y f. absurd
          (let g : ◌≡◌ {A = Option Asked} None (Some y) = sym none ∙ f in cc)) k)
      bare none vs each (inr one) =
          subst (λ (us : List Move). WayAt ts port h (us ++ before) link rest Up arrived) (sym one.1)
          (way-moved rest one.0 (subst (Each (CameAsked ts port h)) one.1 each).0
          (way-passed x rest (λ y f. absurd (let g : ◌≡◌ {A = Option Asked} None (Some y) = sym none ∙ f in cc)) k))

      few : (l : SimLink) (r : Option Inbound) → (heard_on l packet r choice ≡ []) ⊎
          ((v : Move) × (heard_on l packet r choice ≡ v ∷ []))
      few NoLink r = inl refl
      few Connected r = inl refl
      few LoggedIn None = inl refl
      few LoggedIn (Some message) = by_kind (packet.kind == 85)
        where
          by_kind : (b : Bool) → ((if b then Comes message choice ∷ [] else []) ≡ []) ⊎
              ((v : Move) × ((if b then Comes message choice ∷ [] else []) ≡ v ∷ []))
          by_kind true = inr (Comes message choice, refl)
          by_kind false = inl refl

      same : (y : Asked) (asks_it : x.asks ≡ Some y) → packet ≡ (k.says.0 y asks_it).packet
      same y asks_it = let says = k.says.0 y asks_it in same_packet packet says.packet (is ∙ sym says.is_packet)

      kind : (y : Asked) → x.asks ≡ Some y → (packet.kind == 85) ≡ true
      kind y asks_it = eq-eqb packet.kind 85 (ap (λ (z : Packet). z.kind) (same y asks_it) ∙ (k.says.0 y asks_it).kind)

      logged_in : (y : Asked) → x.asks ≡ Some y → (and_asked x.asks (asks_in rest) ≡ []) ⊎ (link ≡ LoggedIn)
          → link ≡ LoggedIn
      logged_in y asks_it (inl none) = absurd (let f : y ∷ asks_in rest ≡ [] =
          sym (ap (λ (o : Option Asked). and_asked o (asks_in rest)) asks_it) ∙ none in cc)
      logged_in y asks_it (inr e) = e

      heard-one : (b : Bool) (message : Inbound) → b ≡ true
          → (if b then Comes message choice ∷ [] else []) ≡ Comes message choice ∷ []
      heard-one true message e = refl
      heard-one false message e = absurd (cc)

      by_read : (y : Asked) → x.asks ≡ Some y → (r : Option Inbound) → IsReadAs packet.payload r → (vs : List Move)
          → vs ≡ heard_on LoggedIn packet r choice → Each (CameAsked ts port h) vs
          → WayAt ts port h (vs ++ before) link rest Up (arrived_with (Some y) vs (ran before).machine arrived)
      by_read y asks_it None unread vs vs_is each =
          let says = k.says.0 y asks_it in
          let bare : gives y.said ≡ None =
          unread-gives ts port h y says.there packet.payload bytes says.standing says.order_of
          (ap (λ (p : Packet). ask_of_bytes says.standing says.order_of p.payload) (same y asks_it) ∙ says.says.ask)
          unread in
          subst (λ (us : List Move). WayAt ts port h (us ++ before) link rest Up
          (arrived_with (Some y) us (ran before).machine arrived)) (sym vs_is)
          (way-passed x rest (λ z f. let z_is : z ≡ y = (let g : Some z ≡ Some y = sym f ∙ asks_it in cc) in
          ap (λ (a : Asked). gives a.said) z_is ∙ bare) k)
      by_read y asks_it (Some message) reads_it vs vs_is each =
          let says = k.says.0 y asks_it in
          let one : vs ≡ Comes message choice ∷ [] = vs_is ∙ heard-one (packet.kind == 85) message (kind y asks_it) in
          subst (λ (us : List Move). WayAt ts port h (us ++ before) link rest Up
          (arrived_with (Some y) us (ran before).machine arrived)) (sym one)
          (way-came x rest y asks_it message choice (subst (Each (CameAsked ts port h)) one each).0
          (subst (HasTokens y.said) (sym reads_it) (subst (λ (z : Packet). HasTokens y.said z.payload)
          (sym (same y asks_it)) says.says.tokens)) k)

      by_asks : (o : Option Asked) → x.asks ≡ o
          → WayAt ts port h (heard_on link packet read choice ++ before) link rest Up
          (arrived_with o (heard_on link packet read choice) (ran before).machine arrived)
      by_asks None none = bare none (heard_on link packet read choice) w (few link read)
      by_asks (Some y) asks_it = by_read y asks_it read reads (heard_on link packet read choice)
          (ap (λ (l : SimLink). heard_on l packet read choice) (logged_in y asks_it k.ready)) w

-- ---- the order level

pub asks-append : (xs ys : List Carried) → asks_in (xs ++ ys) ≡ asks_in xs ++ asks_in ys
asks-append [] ys = refl
asks-append (x ∷ xs) ys = by_asks x.asks (asks-append xs ys)
  where
    by_asks : (o : Option Asked) → asks_in (xs ++ ys) ≡ asks_in xs ++ asks_in ys
        → and_asked o (asks_in (xs ++ ys)) ≡ and_asked o (asks_in xs) ++ asks_in ys
    by_asks None e = e
    by_asks (Some y) e = ap (λ (L : List Asked). y ∷ L) e

-- a turn, by which these packets are sent behind what is on its way: all that it asks, where the session is up; else
-- none
module _ (ts : List Terms) (t : OrderTurn) (before : OrderHistory) (s : TableState) (short : length (t ∷ before) < 2 ^ 59) (leaves : TurnsLeave ts (t ∷ before) s) (port : ℕ) (ms : List Move) (came : Each (CameAsked ts port before) ms) where
  abbrev m : Machine
  m = (ran ms).machine

  abbrev now : List Asked
  now = asks_of ts port (entry_at ts t.event before) (accepted ts before) (issued (sender t.event) before)
      (handled port before)

  abbrev pub AsksNow : Type 0 → Type 0 → List Asked → Type 0
  AsksNow Up Up' more = (Up × (more ≡ asks_of ts port (entry_at ts t.event before) (accepted ts before)
      (issued (sender t.event) before) (handled port before)))
      ⊎ ((more ≡ []) × (Up' → Up × (asks_of ts port (entry_at ts t.event before) (accepted ts before)
      (issued (sender t.event) before) (handled port before) ≡ [])))

  -- what is fixed stays so
  fixed-asked : (arrived : List Arrival) → Each (IsFixed (asked ts port before) (ran ms).machine) arrived
      → Each (IsFixed (asked ts port (t ∷ before)) (ran ms).machine) arrived
  fixed-asked arrived each = each-all (IsFixed (asked ts port before) (ran ms).machine)
      (IsFixed (asked ts port (t ∷ before)) (ran ms).machine) arrived
      (λ a k. record {
        there = in-left a.asks (asked ts port before) _ k.there;
        others = λ tok finds z j o i u says. ⊎_elim
            (λ old. ⊎_elim (λ e. inl e) (λ n. inr (record {
              depth = n.depth;
              is = never-more (asked ts port before) (asked ts port (t ∷ before)) (ran ms).machine
                  (λ b l. in-left b (asked ts port before) _ l) n.depth u n.is;
            })) (k.others tok finds z old o i u says))
            (λ new. absurd (request-new ts t before s short leaves port a.asks z k.there
            (newly-asked ts port t.event before z new) (sym o) (sym i)))
            (in-parts z (asked ts port before) _ j);
      }) each

  says-kept : (xs : List Carried) → Each (CarriesIt ts port before) xs → Each (CarriesIt ts port (t ∷ before)) xs
  says-kept xs each = each-all (CarriesIt ts port before) (CarriesIt ts port (t ∷ before)) xs
      (λ x k y is. let old = k y is in record {
        there = in-left y (asked ts port before) _ old.there;
        packet =
            old.packet;
        is_packet = old.is_packet;
        kind = old.kind;
        standing = old.standing;
        order_of =
            old.order_of;
        says = old.says;
      }) each

  pub way-turned : (newer : List Outbound) → (ran ms).said ≡ newer ++ handled port (t ∷ before)
      → TurnOf ts t.event t before → (link link' : SimLink) (Up Up' : Type 0) (packets more : List Carried)
      (arrived : List Arrival)
      → AsksNow Up Up' (asks_in more) → Each (CarriesIt ts port (t ∷ before)) more
      → IsReady ts port (t ∷ before) (packets ++ more) link'
      → WayAt ts port before ms link packets Up arrived
      → WayAt ts port (t ∷ before) ms link' (packets ++ more) Up' arrived
  way-turned newer split turn link link' Up Up' packets more arrived how says_more ready k = record {
    waiting = turn-queue ts t before s short leaves port ms came newer split turn k.waiting;
    kept = subst (KeptFrom (asked ts port (t ∷ before)) (IsDecided (asked ts port (t ∷ before)) (ran ms).machine))
        (sym (asks-append packets more)) (kept how);
    given = λ up'. subst (Given (asked ts port (t ∷ before)) (ran ms).machine) (sym (asks-append packets more))
        (given how up');
    says = says;
    ready = ready says;
    fixed = fixed-asked arrived k.fixed;
    one = k.one;
  }
    where
      says : Each (CarriesIt ts port (t ∷ before)) (packets ++ more)
      says = each-join (CarriesIt ts port (t ∷ before)) packets more (says-kept packets k.says) says_more

      there : (a : Asked) → IsIn a (asks_in packets) → IsIn a (asked ts port before)
      there a i = in-carried ts port before a packets k.says i

      queue : Up → IsQueue (asked ts port (t ∷ before)) (ran ms).machine
          (asks_in packets ++ asks_of ts port (entry_at ts t.event before) (accepted ts before)
          (issued (sender t.event) before) (handled port before))
      queue up = turn-asked ts t before s short leaves port ms came newer split (asks_in packets) there
          (record { kept = k.kept; given = k.given up })

      kept : AsksNow Up Up' (asks_in more) → KeptFrom (asked ts port (t ∷ before))
          (IsDecided (asked ts port (t ∷ before)) (ran ms).machine) (asks_in packets ++ asks_in more)
      kept (inl h) = subst (λ (L : List Asked). KeptFrom (asked ts port (t ∷ before))
          (IsDecided (asked ts port (t ∷ before)) (ran ms).machine) (asks_in packets ++ L)) (sym h.1) (queue h.0).kept
      kept (inr h) =
          subst (λ (L : List Asked). KeptFrom (asked ts port (t ∷ before))
          (IsDecided (asked ts port (t ∷ before)) (ran ms).machine) L)
          (sym (ap (λ (L : List Asked). asks_in packets ++ L) h.0 ∙ append-nil (asks_in packets)))
          (turn-kept ts t before s short leaves port (ran ms).machine (asks_in packets) there k.kept)

      given : AsksNow Up Up' (asks_in more) → Up'
          → Given (asked ts port (t ∷ before)) (ran ms).machine (asks_in packets ++ asks_in more)
      given (inl h) up' = subst (λ (L : List Asked). Given (asked ts port (t ∷ before)) (ran ms).machine
          (asks_in packets ++ L)) (sym h.1) (queue h.0).given
      given (inr h) up' = subst (Given (asked ts port (t ∷ before)) (ran ms).machine)
          (sym (ap (λ (L : List Asked). asks_in packets ++ L) h.0 ∙ append-nil (asks_in packets)))
          (λ a u i e. ⊎_elim
          (λ old. ⊎_elim (λ d. inl (decided-more (asked ts port before) (asked ts port (t ∷ before)) (ran ms).machine
          (λ b l. in-left b (asked ts port before) _ l) u d)) (λ n. inr n) (k.given (h.1 up').0 a u old e))
          (λ new. absurd (subst (IsIn a) (h.1 up').1 new))
          (in-parts a (asked ts port before) _ i))

-- ---- no turn

-- the same link
pub way-told : (ts : List Terms) (port : ℕ) (h : OrderHistory) (ms : List Move) (link link' : SimLink) (Up Up' : Type 0)
    (packets more : List Carried) (arrived : List Arrival) → asks_in more ≡ [] → Each (CarriesIt ts port h) more
    → (Up' → Up)
    → IsReady ts port h (packets ++ more) link' → WayAt ts port h ms link packets Up arrived
    → WayAt ts port h ms link' (packets ++ more) Up' arrived
way-told ts port h ms link link' Up Up' packets more arrived none says_more up ready k = record {
  waiting = k.waiting;
  kept = subst (KeptFrom (asked ts port h) (IsDecided (asked ts port h) (ran ms).machine)) (sym same) k.kept;
  given = λ up'. subst (Given (asked ts port h) (ran ms).machine) (sym same) (k.given (up up'));
  says = says;
  ready = ready says;
  fixed = k.fixed;
  one = k.one;
}
  where
    says : Each (CarriesIt ts port h) (packets ++ more)
    says = each-join (CarriesIt ts port h) packets more k.says says_more

    same : asks_in (packets ++ more) ≡ asks_in packets
    same = asks-append packets more ∙ ap (λ (L : List Asked). asks_in packets ++ L) none ∙ append-nil (asks_in packets)

-- one on which nothing was on its way is sent all that is outstanding
pub way-again : (ts : List Terms) (port : ℕ) (h : OrderHistory) (ms : List Move) (link link' : SimLink)
    (Up Up' : Type 0) (packets more : List Carried) (arrived : List Arrival) → asks_in more ≡ outstanding ts port h
    → Each (CarriesIt ts port h) more
    → IsReady ts port h more link' → WayAt ts port h ms link packets Up arrived
    → WayAt ts port h ms link' more Up' arrived
way-again ts port h ms link link' Up Up' packets more arrived all says_more ready k = record {
  waiting = k.waiting;
  kept = subst (KeptFrom (asked ts port h) (IsDecided (asked ts port h) (ran ms).machine)) (sym all) k.waiting.kept;
  given = λ up'. subst (Given (asked ts port h) (ran ms).machine) (sym all) k.waiting.given;
  says = says_more;
  ready = ready says_more;
  fixed = k.fixed;
  one = k.one;
}

-- nothing is on its way, and the session isn't up
pub way-none : (ts : List Terms) (port : ℕ) (h : OrderHistory) (ms : List Move) (link link' : SimLink) (Up Up' : Type 0)
    (packets : List Carried) (arrived : List Arrival) → (Up' → ⊥) → WayAt ts port h ms link packets Up arrived
    → WayAt ts port h ms link' [] Up' arrived
way-none ts port h ms link link' Up Up' packets arrived down k = record {
  waiting = k.waiting;
  kept = tt;
  given = λ up'. absurd (down up');
  says = tt;
  ready = inl refl;
  fixed = k.fixed;
  one = k.one;
}
