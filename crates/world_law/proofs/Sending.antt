-- What an event of the gateway sends to a port, and what that makes of what is on its way.
use Rattle.std.proofs.Common.{◌≡◌, ◌+◌, ◌<◌, ◌≤◌, ◌^◌, ◌==◌, ℕ, suc, Bool, true, false, List, [], ◌∷◌, ◌++◌, length}
use Rattle.std.proofs.Common.{reverse, refl, sym, ap, ◌∙◌, subst, arith, Option, Some, None, ◌⊎◌, inl, inr, ⊎_elim}
use Rattle.std.proofs.Common.{eq-eqb, nat_lt}
use Rattle.std.proofs.lemmas.Bool.Decides.{nat_tests}
use Rattle.std.proofs.lemmas.List.{append-nil}
use Rattle.order_law.specs.ouch_codec.declared.outbound.Outbound.{Outbound}
use Rattle.order_law.specs.Asks.{Standing}
use Rattle.order_law.specs.History.{Asked, OrderHistory, OrderTurn, Terms, accepted, asks_of, entry_at, handled, issued}
use Rattle.order_law.specs.History.{outstanding}
use Rattle.order_law.specs.Headline.{Each, EachWith, Headline, Says}
use Rattle.order_machine.specs.Runs.{IsTableRun}
use Rattle.soup_packets.specs.declared.packet.Packet.{Packet}
use Rattle.soup_packets.specs.Spelling.{packet_bytes}
use Rattle.soup_session.specs.States.{is_up}
use Rattle.soup_session.specs.Writing.{message_packet}
use Rattle.soup_session.specs.Table.{LoginTerms, PortStanding}
use Rattle.market_law.specs.Run.{Move, ran}
use Rattle.market_sim.specs.declared.link.SimLink.{SimLink}
use Rattle.market_sim.specs.declared.link.SimLink.TheVariants.{Connected, LoggedIn}
use Rattle.market_sim.specs.Sim.{accepts_login}
use Rattle.gate_law.specs.Settings.{Settings, terms}
use Rattle.gate_law.specs.Events.{Close, History, LinkOut, Turn, Write}
use Rattle.gate_law.specs.Lists.{Lists, turned}
use Rattle.gate_law.specs.Outcome.{outcome}
use Rattle.gate_law.specs.After.{is_within_day, lists, order_turns}
use Rattle.world_law.specs.Ports.{messages_on}
use Rattle.world_law.specs.Asked.{CameAsked, IsIn, asked, sender}
use Rattle.world_law.specs.World.{Arrival, Carried, Connection, carried, for_link}
use Rattle.world_law.proofs.Behind.{AreBehind, FirstBehind, Beats, Says as Told_of, first-behind}
use Rattle.world_law.proofs.InStep.{InStep, IsServing, OnConnection}
use Rattle.world_law.proofs.Core.{stands_at}
use Rattle.world_law.proofs.Good.{Lawful, one-more, past, turns-short}
use Rattle.world_law.proofs.Arriving.{CarriesIt, SaysIt, and_asked, asks_in}
use Rattle.world_law.proofs.Way.{AsksNow, WayAt, asks-append, way-again, way-told, way-turned}

-- ---- what is written asks what it was written for

pub record SaysSome (y : Asked) (m : List ℕ) : Type 0 where
  pub standing : Standing
  pub order_of : List ℕ → Option ℕ
  pub says : Says standing order_of y m

module _ (ts : List Terms) (port : ℕ) (h : OrderHistory) (link : ℕ) (P : Asked → List ℕ → Type 0) (some : (y : Asked) (m : List ℕ) → P y m → SaysSome y m) where
  pub sent-asks : (asks : List Asked) (ms : List (List ℕ)) → EachWith P asks ms
      → asks_in (carried link (messages_on link ms) asks) ≡ asks
  sent-asks [] [] k = refl
  sent-asks [] (m ∷ ms) k = absurd k
  sent-asks (y ∷ ys) [] k = absurd k
  sent-asks (y ∷ ys) (m ∷ ms) k = by_link (link == link) (eq-eqb link link refl) (sent-asks ys ms k.1)
    where
      by_link : (b : Bool) → b ≡ true → asks_in (carried link (messages_on link ms) ys) ≡ ys
          → asks_in (for_link b (packet_bytes (message_packet m)) (y ∷ ys) ++ carried link (messages_on link ms) ys)
          ≡ y ∷ ys
      by_link true e rest = ap (λ (L : List Asked). y ∷ L) rest
      by_link false e rest = absurd (cc)

  pub sent-says : (asks : List Asked) (ms : List (List ℕ)) → EachWith P asks ms
      → ((y : Asked) → IsIn y asks → IsIn y (asked ts port h))
      → Each (CarriesIt ts port h) (carried link (messages_on link ms) asks)
  sent-says [] [] k there = tt
  sent-says [] (m ∷ ms) k there = absurd k
  sent-says (y ∷ ys) [] k there = absurd k
  sent-says (y ∷ ys) (m ∷ ms) k there = by_link (link == link) (eq-eqb link link refl)
      (sent-says ys ms k.1 (λ a i. there a (inr i)))
    where
      own : (z : Asked) → Some y ≡ Some z → SaysIt ts port h (packet_bytes (message_packet m)) z
      own z is =
          let same : y ≡ z = cc in
          let k0 = some y m k.0 in
          subst (SaysIt ts port h (packet_bytes (message_packet m))) same
          (record {
            there = there y (inl refl);
            packet = message_packet m;
            is_packet = refl;
            kind = refl;
            standing =
                k0.standing;
            order_of = k0.order_of;
            says = k0.says;
          })

      by_link : (b : Bool) → b ≡ true → Each (CarriesIt ts port h) (carried link (messages_on link ms) ys)
          → Each (CarriesIt ts port h) (for_link b (packet_bytes (message_packet m)) (y ∷ ys)
          ++ carried link (messages_on link ms) ys)
      by_link true e rest = (own, rest)
      by_link false e rest = absurd (cc)

-- packets that ask nothing say nothing wrong
pub none-says : (ts : List Terms) (port : ℕ) (h : OrderHistory) (xs : List Carried) → asks_in xs ≡ []
    → Each (CarriesIt ts port h) xs
none-says ts port h [] e = tt
none-says ts port h (x ∷ xs) e = by_asks x.asks refl e (none-says ts port h xs)
  where
    by_asks : (o : Option Asked) → x.asks ≡ o → and_asked o (asks_in xs) ≡ []
        → (asks_in xs ≡ [] → Each (CarriesIt ts port h) xs) → Each (CarriesIt ts port h) (x ∷ xs)
    by_asks None is none rest = (
      λ y f. absurd
          (let g : ◌≡◌ {A = Option Asked} None (Some y) = sym is ∙ f in cc),
      rest none,
    )
    by_asks (Some y) is none rest = absurd (cc)

-- a batch that is sent for nothing
pub unasked : (link : ℕ) (outs : List LinkOut) → asks_in (carried link outs []) ≡ []
unasked link [] = refl
unasked link (Close other ∷ outs) = unasked link outs
unasked link (Write other bytes ∷ outs) = by_link (other == link) (unasked link outs)
  where
    by_link : (b : Bool) → asks_in (carried link outs []) ≡ []
        → asks_in (for_link b bytes [] ++ carried link outs []) ≡ []
    by_link true rest = rest
    by_link false rest = rest

-- ---- the two ends in step

not-kinds : (m n : ℕ) → m ≡ n → (m == n) ≡ false → ⊥
not-kinds m n same differ = let e : true ≡ false = sym (eq-eqb m n same) ∙ differ in cc

-- one that serves after an event that delivers nothing to the gateway served before it
pub served-before : (t t' : LoginTerms) (l l' : Option ℕ) (x x' : PortStanding) (count count' : ℕ)
    (newer newer' : List Outbound) (market : SimLink) (c c' : Connection) → InStep t l x count newer market (Some c)
    → InStep t' l' x' count' newer' market (Some c')
    → c'.to_core ≡ c.to_core → is_up x'.state ≡ true → is_up x.state ≡ true
served-before t t' l l' x x' count count' newer newer' market c c' k k' same up = by_after k'.2
  where
    by_first : (packet : Packet) (rest : List Packet) (ms : List Outbound) → packet.kind ≡ 65
        → FirstBehind packet rest ms → ⊥
    by_first packet rest ms kind (Beats is behind) = not-kinds 65 72 (sym kind ∙ ap (λ (p : Packet). p.kind) is) refl
    by_first packet rest ms kind (Told_of m later newest is behind) =
        not-kinds 65 83 (sym kind ∙ ap (λ (p : Packet). p.kind) is) refl

    by_before : IsServing x' newer' market c' → OnConnection t x count newer market c → is_up x.state ≡ true
    by_before i (inl j) = absurd (let e : Connected ≡ LoggedIn = sym j.market_link ∙ i.market_link in cc)
    by_before i (inr (inl j)) = absurd (by_first (accepts_login (count + 1)) j.rest (reverse newer') refl
        (first-behind (accepts_login (count + 1)) j.rest (reverse newer')
        (subst (λ (xs : List Packet). AreBehind xs (reverse newer')) (same ∙ j.to_core) i.behind)))
    by_before i (inr (inr j)) = ap is_up j.state

    by_after : OnConnection t' x' count' newer' market c' → is_up x.state ≡ true
    by_after (inl i) = absurd (let e : false ≡ true = sym (ap is_up i.state) ∙ up in cc)
    by_after (inr (inl i)) = absurd (let e : false ≡ true = sym (ap is_up i.state) ∙ up in cc)
    by_after (inr (inr i)) = by_before i k.2

-- a port with no connection isn't up
pub apart-down : (t : LoginTerms) (l : Option ℕ) (x : PortStanding) (count : ℕ) (newer : List Outbound)
    (market : SimLink) → InStep t l x count newer market None → is_up x.state ≡ true → ⊥
apart-down t l x count newer market k up = let e : false ≡ true = sym (ap is_up k.1.state) ∙ up in cc

-- ---- an event

-- whether a port's session is up, within the day
abbrev pub IsUp : Settings → History → ℕ → Type 0
IsUp s h q = (is_within_day h ≡ true) × (is_up (stands_at s (lists s h) q).state ≡ true)

-- what is asked of a port by a turn
abbrev pub asks_now : Settings → ℕ → OrderTurn → OrderHistory → List Asked
asks_now s q x before = asks_of (terms s) q (entry_at (terms s) x.event before) (accepted (terms s) before)
    (issued (sender x.event) before) (handled q before)

-- what it sends behind what is on its way: nothing that asks; what is asked now; or all that is outstanding, behind
-- nothing
pub data Sends (s : Settings) (q : ℕ) (before : OrderHistory) (turn : Option OrderTurn) (link : SimLink) (U U' : Type 0) (packets more : List Carried) : Type 0 where
  Quiet : asks_in more ≡ [] → (U' → U) → ((x : OrderTurn) → turn ≡ Some x → U' → asks_now s q x before ≡ [])
      → Sends s q before turn link U U' packets more
  Asks : U → link ≡ LoggedIn → (x : OrderTurn) → turn ≡ Some x → asks_in more ≡ asks_now s q x before
      → Each (CarriesIt (terms s) q (x ∷ before)) more → Sends s q before turn link U U' packets more
  Again : packets ≡ [] → link ≡ LoggedIn → turn ≡ None → asks_in more ≡ outstanding (terms s) q before
      → Each (CarriesIt (terms s) q before) more → Sends s q before turn link U U' packets more

pub within-first : (t : Turn) (h : History) → is_within_day (t ∷ h) ≡ true → is_within_day h ≡ false → ⊥
within-first t h on off = apart (length h) (2 ^ 48) on off
  where
    apart : (n k : ℕ) → nat_lt (suc n) k ≡ true → nat_lt n k ≡ false → ⊥
    apart n k e f = grind (arith, nat_tests)

-- after a turn of the order level
module _ (s : Settings) (h : History) (t : Turn) (lawful : Lawful s (t ∷ h)) (on : is_within_day h ≡ true) (x : OrderTurn) (is : (outcome s t.event t.batch (lists s h)).turn ≡ Some x) where
  pub turn-last : order_turns s (t ∷ h) ≡ x ∷ order_turns s h
  turn-last = one-more s h t on ∙ ap (λ (y : Option OrderTurn). (turned y (lists s h)).turns) is

  pub last-table : IsTableRun (terms s) (x ∷ order_turns s h)
  last-table = subst (IsTableRun (terms s)) turn-last lawful.table

  pub last-short : length (x ∷ order_turns s h) < 2 ^ 59
  last-short = let few : length (x ∷ order_turns s h) ≤ 2 ^ 48 =
      subst (λ (turns : OrderHistory). length turns ≤ 2 ^ 48) turn-last (turns-short s (t ∷ h)) in omega (arith, few)

  pub last-holds : Headline (terms s) (x ∷ order_turns s h)
  last-holds = subst (Headline (terms s)) turn-last lawful.orders

module _ (s : Settings) (h : History) (t : Turn) (lawful : Lawful s (t ∷ h)) (q : ℕ) (ms : List Move)
    (came : Each (CameAsked (terms s) q (order_turns s h)) ms) (newer : List Outbound)
    (split : (ran ms).said ≡ newer ++ handled q (order_turns s (t ∷ h)))
    (U U' : Type 0) (off_up : is_within_day h ≡ false → U' → ⊥) where
  pub event-way : (link : SimLink) (packets more : List Carried) (arrived : List Arrival)
      → (is_within_day h ≡ false → asks_in more ≡ [])
      → (is_within_day h ≡ true → Sends s q (order_turns s h)
      (outcome s t.event t.batch (lists s h)).turn link U U' packets more)
      → WayAt (terms s) q (order_turns s h) ms link packets U arrived
      → WayAt (terms s) q (order_turns s (t ∷ h)) ms link (packets ++ more) U' arrived
  event-way link packets more arrived silent does k = by_day (is_within_day h) refl
    where
      still : asks_in more ≡ [] → (asks_in (packets ++ more) ≡ []) ⊎ (link ≡ LoggedIn)
      still none = ⊎_elim (λ e. inl (asks-append packets more ∙ ap (λ (L : List Asked). asks_in packets ++ L) none
          ∙ append-nil (asks_in packets) ∙ e)) (λ e. inr e) k.ready

      told : asks_in more ≡ [] → (U' → U) → WayAt (terms s) q (order_turns s h) ms link (packets ++ more) U' arrived
      told none up = way-told (terms s) q (order_turns s h) ms link link U U' packets more arrived none
          (none-says (terms s) q (order_turns s h) more none) up (λ says. still none) k

      by_none : (turn : Option OrderTurn) → turn ≡ None → Sends s q (order_turns s h) turn link U U' packets more
          → WayAt (terms s) q (order_turns s h) ms link (packets ++ more) U' arrived
      by_none turn is (Quiet none up now) = told none up
      by_none turn is (Asks up logged x is_some all says) =
          absurd (let e : ◌≡◌ {A = Option OrderTurn} None (Some x) = sym is ∙ is_some in cc)
      by_none turn is (Again empty logged none all says) =
          subst (λ (xs : List Carried). WayAt (terms s) q (order_turns s h) ms link (xs ++ more) U' arrived) (sym empty)
          (way-again (terms s) q (order_turns s h) ms link link U U' packets more arrived all says
          (λ all_says. inr logged) k)

      turned_way : (on : is_within_day h ≡ true) (x : OrderTurn)
          (is : (outcome s t.event t.batch (lists s h)).turn ≡ Some x)
          → AsksNow (terms s) x (order_turns s h) (last-table s h t lawful on x is).0 (last-short s h t lawful on x is)
          (last-table s h t lawful on x is).1 q ms came U U' (asks_in more)
          → Each (CarriesIt (terms s) q (x ∷ order_turns s h)) more
          → (asks_in (packets ++ more) ≡ []) ⊎ (link ≡ LoggedIn)
          → WayAt (terms s) q (x ∷ order_turns s h) ms link (packets ++ more) U' arrived
      turned_way on x is how says ready =
          way-turned (terms s) x (order_turns s h) (last-table s h t lawful on x is).0 (last-short s h t lawful on x is)
          (last-table s h t lawful on x is).1 q ms came newer
          (subst (λ (turns : OrderHistory). (ran ms).said ≡ newer ++ handled q turns)
          (turn-last s h t lawful on x is) split) (last-holds s h t lawful on x is).0.answers link link U U' packets
          more arrived how says (λ all. ready) k

      by_more : (on : is_within_day h ≡ true) (x : OrderTurn)
          (is : (outcome s t.event t.batch (lists s h)).turn ≡ Some x)
          → Sends s q (order_turns s h) (Some x) link U U' packets more
          → WayAt (terms s) q (x ∷ order_turns s h) ms link (packets ++ more) U' arrived
      by_more on x is (Quiet none up now) = turned_way on x is (inr (none, λ up'. (up up', now x refl up')))
          (none-says (terms s) q (x ∷ order_turns s h) more none) (still none)
      by_more on x is (Asks up logged y is_y all says) =
          let same : y ≡ x = (let e : Some x ≡ Some y = is_y in cc) in
          turned_way on x is (inl (
            up,
            subst (λ (z : OrderTurn). asks_in more ≡ asks_now s q z (order_turns s h)) same
                all,
          )) (subst (λ (z : OrderTurn). Each (CarriesIt (terms s) q (z ∷ order_turns s h)) more) same says)
          (inr logged)
      by_more on x is (Again empty logged none all says) =
          absurd (let e : ◌≡◌ {A = Option OrderTurn} None (Some x) = sym none in cc)

      by_turn : (on : is_within_day h ≡ true) (turn : Option OrderTurn)
          → (outcome s t.event t.batch (lists s h)).turn ≡ turn
          → Sends s q (order_turns s h) (outcome s t.event t.batch (lists s h)).turn link U U' packets more
          → WayAt (terms s) q (turned turn (lists s h)).turns ms link (packets ++ more) U' arrived
      by_turn on None is all = by_none (outcome s t.event t.batch (lists s h)).turn is all
      by_turn on (Some x) is all = by_more on x is
          (subst (λ (y : Option OrderTurn). Sends s q (order_turns s h) y link U U' packets more) is all)

      by_day : (c : Bool) → is_within_day h ≡ c
          → WayAt (terms s) q (order_turns s (t ∷ h)) ms link (packets ++ more) U' arrived
      by_day true on =
          subst (λ (turns : OrderHistory). WayAt (terms s) q turns ms link (packets ++ more) U' arrived)
          (sym (one-more s h t on)) (by_turn on (outcome s t.event t.batch (lists s h)).turn refl (does on))
      by_day false off =
          subst (λ (turns : OrderHistory). WayAt (terms s) q turns ms link (packets ++ more) U' arrived)
          (sym (ap (λ (v : Lists). v.turns) (past s h t off)))
          (told (silent off) (λ up. absurd (off_up off up)))
