-- What each event of the gateway sends to its own port, and that it asks nothing of another.
use Rattle.std.proofs.Common.{◌≡◌, ◌<◌, ◌+◌, ◌^◌, ◌==◌, ℕ, Bool, true, false, not, List, [], ◌∷◌, ◌++◌, length, reverse}
use Rattle.std.proofs.Common.{refl, sym, ap, ◌∙◌, subst, arith, Option, Some, None, ◌⊎◌, inl, inr, eq-eqb}
use Rattle.std.proofs.lemmas.Bool.{cond-true, cond-false, eqb-false, ne_eqb}
use Rattle.std.specs.Prelude.{◌&&◌, if◌then◌else◌, Result, option_map}
use Rattle.session_law.specs.fix_types.declared.application.AppMsg.{AppMsg}
use Rattle.session_law.specs.fix_types.Application.{message_fields}
use Rattle.session_law.specs.Runs.{OnMessage}
use Rattle.fix_fields.specs.Field.{Message}
use Rattle.order_law.specs.ouch_codec.declared.outbound.Outbound.{Outbound}
use Rattle.order_law.specs.ouch_codec.declared.refusal.DecodeRefusal.{DecodeRefusal}
use Rattle.order_law.specs.ouch_codec.Values.{decoded}
use Rattle.order_law.specs.Verdicts.{Port}
use Rattle.order_law.specs.History.{Asked, Came, Heard, Entry, OrderTurn, accepted, asks_of, entry_at, handled, issued}
use Rattle.order_law.specs.History.{outstanding, terms_of}
use Rattle.order_law.specs.Headline.{AnswersClient, Each, EachWith, Says, SaysIn, Sends as SendsThen, order_number}
use Rattle.soup_packets.specs.declared.packet.Packet.{Packet}
use Rattle.soup_session.specs.declared.port_state.PortState.{PortState}
use Rattle.soup_session.specs.declared.port_state.PortState.TheVariants.{Down, LoggingIn, Up, Ended, Faulted}
use Rattle.soup_session.specs.declared.port_fault.PortFault.{PortFault}
use Rattle.soup_session.specs.Faults.{fault_number}
use Rattle.soup_session.specs.States.{is_open, is_up}
use Rattle.soup_session.specs.Table.{OnPacket, PortAnswer, PortStanding, answer_in, arrives, heard_now, passed}
use Rattle.soup_session.specs.Table.{quiet_answer, wanted}
use Rattle.market_sim.specs.declared.link.SimLink.{SimLink}
use Rattle.market_sim.specs.declared.link.SimLink.TheVariants.{LoggedIn}
use Rattle.market_sim.specs.Outbound.{outbound_bytes}
use Rattle.market_sim.specs.Sim.{accepts_login, market_session}
use Rattle.gate_law.specs.Settings.{Settings, has_port, port_of, port_terms, terms}
use Rattle.gate_law.specs.Events.{Event, ClientUp, ClientMessage, ClientGone, ClientTick, PortUp, PortPacket, PortGone}
use Rattle.gate_law.specs.Events.{PortTick, LinkOut, Batch, History}
use Rattle.gate_law.specs.Lists.{Lists}
use Rattle.gate_law.specs.Sessions.{client_answer, port_answer, port_outs, port_state, sends, stands_of, to_port}
use Rattle.gate_law.specs.Outcome.{Stays, Refused, Outcome, addressee, asked as asked_by, bodies, by_app, by_fault}
use Rattle.gate_law.specs.Outcome.{by_payload, client_up, is_stepped, messages, nothing, of_client, of_port, outcome}
use Rattle.gate_law.specs.Outcome.{port_up, told_outcome}
use Rattle.gate_law.specs.After.{is_within_day, lists, order_turns}
use Rattle.gate_law.specs.Due.{Gives, port_named, to_port_of}
use Rattle.gate_law.specs.Promises.{Asks as AsksOf, AsksAgain, AsksOnlyThen, comes_up}
use Rattle.world_law.specs.Ports.{messages_on}
use Rattle.world_law.proofs.Arrivals.{sends-written}
use Rattle.world_law.proofs.Ports.{no-lines}
use Rattle.world_law.specs.Asked.{asked, sender}
use Rattle.world_law.proofs.Members.{in-right}
use Rattle.world_law.proofs.Outstanding.{outstanding-asked}
use Rattle.world_law.specs.World.{Connection, asked_by_event, carried}
use Rattle.world_law.proofs.Behind.{FirstBehind, Beats, Says as Told_of, AreBehind, first-behind}
use Rattle.world_law.proofs.InStep.{IsServing, OnConnection}
use Rattle.world_law.proofs.Stands.{accepted-answer, arrives-next, beat-answer, sequenced-answer}
use Rattle.world_law.proofs.Core.{StepIn, stands_at}
use Rattle.world_law.proofs.Good.{Lawful, on-day}
use Rattle.world_law.proofs.Arriving.{CarriesIt, asks_in}
use Rattle.world_law.proofs.Naming.{entry-own}
use Rattle.world_law.proofs.Sending.{Again, Asks, IsUp, Quiet, SaysSome, Sends, asks_now, last-holds, sent-asks}
use Rattle.world_law.proofs.Sending.{sent-says}

-- ---- the turn of an event

pub data TurnKind (s : Settings) (e : Event) (x : OrderTurn) : Type 0 where
  OfMessage : (client : ℕ) (m : Message) (p : Port) → x.event ≡ Came client m p → port_named s e ≡ port_of s client
      → TurnKind s e x
  OfPacket : (p : ℕ) (heard : Result Outbound DecodeRefusal) → x.event ≡ Heard p heard → TurnKind s e x

no-turn : (o : Outcome) (x : OrderTurn) → o.turn ≡ None → (c : Bool) → (if c then o else nothing).turn ≡ Some x → ⊥
no-turn o x none true e = let f : ◌≡◌ {A = Option OrderTurn} None (Some x) = sym none ∙ e in cc
no-turn o x none false e = cc

-- an event that brings no message of a client, and no packet of a market
abbrev pub is_plain : Event → Bool
is_plain (ClientUp client link at) = true
is_plain (ClientMessage client link at frame) = false
is_plain (ClientGone client link at) = true
is_plain (ClientTick client at) = true
is_plain (PortUp p link at) = true
is_plain (PortPacket p link at packet) = false
is_plain (PortGone p link at) = true
is_plain (PortTick p at) = true

if-turn : (c : Bool) (x y : Outcome) → x.turn ≡ None → y.turn ≡ None → (if c then x else y).turn ≡ None
if-turn true x y p q = p
if-turn false x y p q = q

client-up-turn : (client link at : ℕ) (current : Option ℕ) → (client_up client link at current).turn ≡ None
client-up-turn client link at None = refl
client-up-turn client link at (Some n) = if-turn (n == link) nothing (of_client client (Refused link) []) refl refl

port-up-turn : (p link at : ℕ) (current : Option ℕ) → (port_up p link at current).turn ≡ None
port-up-turn p link at None = refl
port-up-turn p link at (Some n) = if-turn (n == link) nothing (of_port p (Refused link) []) refl refl

pub plain-turn : (s : Settings) (e : Event) (b : Batch) (v : Lists) (x : OrderTurn) → is_plain e ≡ true
    → (outcome s e b v).turn ≡ Some x → ⊥
plain-turn s (ClientUp client link at) b v x plain e =
    no-turn (client_up client link at (v.client_link client)) x (client-up-turn client link at (v.client_link client))
    (is_stepped s (ClientUp client link at) v) e
plain-turn s (ClientMessage client link at frame) b v x plain e = absurd (cc)
plain-turn s (ClientGone client link at) b v x plain e = no-turn _ x refl (is_stepped s (ClientGone client link at) v) e
plain-turn s (ClientTick client at) b v x plain e = no-turn _ x refl (is_stepped s (ClientTick client at) v) e
plain-turn s (PortUp p link at) b v x plain e =
    no-turn (port_up p link at (v.port_link p)) x (port-up-turn p link at (v.port_link p))
    (is_stepped s (PortUp p link at) v) e
plain-turn s (PortPacket p link at packet) b v x plain e = absurd (cc)
plain-turn s (PortGone p link at) b v x plain e = no-turn _ x refl (is_stepped s (PortGone p link at) v) e
plain-turn s (PortTick p at) b v x plain e = no-turn _ x refl (is_stepped s (PortTick p at) v) e

pub plain-asks : (s : Settings) (e : Event) (v : Lists) (q : ℕ) → is_plain e ≡ true → asked_by_event s e v q ≡ []
unfolding asked_by_event
plain-asks s (ClientUp client link at) v q plain = refl
plain-asks s (ClientMessage client link at frame) v q plain = absurd (cc)
plain-asks s (ClientGone client link at) v q plain = refl
plain-asks s (ClientTick client at) v q plain = refl
plain-asks s (PortUp p link at) v q plain = refl
plain-asks s (PortPacket p link at packet) v q plain = absurd (cc)
plain-asks s (PortGone p link at) v q plain = refl
plain-asks s (PortTick p at) v q plain = refl

turn-kind : (s : Settings) (e : Event) (b : Batch) (v : Lists) (x : OrderTurn) → (outcome s e b v).turn ≡ Some x
    → TurnKind s e x
turn-kind s (ClientMessage client link at frame) b v x e =
    by (is_stepped s (ClientMessage client link at frame) v)
    (client_answer s client (v.client_calls client) (at, OnMessage frame)).app e
  where
    by : (c : Bool) (app : Option AppMsg) → (if c then by_app s client at frame b v app else nothing).turn ≡ Some x
        → TurnKind s (ClientMessage client link at frame) x
    by true None f = absurd (cc)
    by true (Some app) f =
        let same : (record {
          event = Came client (message_fields app)
              (stands_of (port_state s (port_of s client) (v.port_calls (port_of s client))));
          client = client;
          bodies =
              bodies b;
          sends = messages b;
          fault = None;
        }) ≡ x = cc in
        OfMessage client (message_fields app) (stands_of
        (port_state s (port_of s client) (v.port_calls (port_of s client))))
        (ap (λ (y : OrderTurn). y.event) (sym same)) refl
    by false app f = absurd (cc)
turn-kind s (PortPacket p link at packet) b v x e =
    by (is_stepped s (PortPacket p link at packet) v) (port_answer s p (v.port_calls p) (OnPacket packet at))
    (port_answer s p (v.port_calls p) (OnPacket packet at)).payload e
  where
    by : (c : Bool) (a : PortAnswer) (payload : Option (List ℕ))
        → (if c then by_payload p at packet b a payload else nothing).turn ≡ Some x
        → TurnKind s (PortPacket p link at packet) x
    by true a None f = absurd (cc)
    by true a (Some payload) f =
        let same : (record {
          event = Heard p (decoded payload);
          client = addressee b;
          bodies = bodies b;
          sends =
              [];
          fault = option_map fault_number b.fault;
        }) ≡ x = cc in
        OfPacket p (decoded payload) (ap (λ (y : OrderTurn). y.event) (sym same))
    by false a payload f = absurd (cc)
turn-kind s (ClientUp client link at) b v x e = absurd (plain-turn s (ClientUp client link at) b v x refl e)
turn-kind s (ClientGone client link at) b v x e = absurd (plain-turn s (ClientGone client link at) b v x refl e)
turn-kind s (ClientTick client at) b v x e = absurd (plain-turn s (ClientTick client at) b v x refl e)
turn-kind s (PortUp p link at) b v x e = absurd (plain-turn s (PortUp p link at) b v x refl e)
turn-kind s (PortGone p link at) b v x e = absurd (plain-turn s (PortGone p link at) b v x refl e)
turn-kind s (PortTick p at) b v x e = absurd (plain-turn s (PortTick p at) b v x refl e)

-- it asks nothing of a port that the event doesn't name
pub now-other : (s : Settings) (e : Event) (b : Batch) (v : Lists) (q : ℕ) (x : OrderTurn)
    → (outcome s e b v).turn ≡ Some x → (q == port_named s e) ≡ false → asks_now s q x v.turns ≡ []
now-other s e b v q x is other = by_kind (turn-kind s e b v x is)
  where
    by_kind : TurnKind s e x → asks_now s q x v.turns ≡ []
    by_kind (OfPacket p heard event) = rw event refl
    by_kind (OfMessage client m p event named) = by_entry (entry_at (terms s) x.event v.turns) refl
      where
        apart : (r : ℕ) → port_named s e ≡ r → (r == q) ≡ false
        apart r same = ne_eqb r q (λ z. eqb-false q (port_named s e) other (sym (same ∙ z)))

        by_entry : (y : Option Entry) → entry_at (terms s) x.event v.turns ≡ y
            → asks_of (terms s) q y (accepted (terms s) v.turns) (issued (sender x.event) v.turns) (handled q v.turns)
            ≡ []
        by_entry None found = refl
        by_entry (Some en) found =
            let own = entry-own (terms s) client m p v.turns en
            (ap (λ ev. entry_at (terms s) ev v.turns) (sym event) ∙ found) in
            cond-false ((terms_of (terms s) en.client).port == q) _ _
            (ap (λ (c : ℕ). (terms_of (terms s) c).port == q) own.client_is ∙ apart (port_of s client) named)

-- ---- a client's message, on its own port

sends-case : (st : PortState) (P : Asked → List ℕ → Type 0) (asks : List Asked) (ms : List (List ℕ))
    → SendsThen (stands_of st) P asks ms → ((is_up st ≡ true) × EachWith P asks ms) ⊎ ((is_up st ≡ false) × (ms ≡ []))
sends-case Down P asks ms k = inr (refl, k)
sends-case LoggingIn P asks ms k = inr (refl, k)
sends-case Up P asks ms k = inl (refl, k)
sends-case Ended P asks ms k = inr (refl, k)
sends-case (Faulted fault) P asks ms k = inr (refl, k)

message-asks : (s : Settings) (client link at q : ℕ) (frame : Message) (v : Lists) (app : AppMsg)
    → (client_answer s client (v.client_calls client) (at, OnMessage frame)).app ≡ Some app
    → asked_by_event s (ClientMessage client link at frame) v q
    ≡ asks_of (terms s) q (entry_at (terms s)
    (Came client (message_fields app) (stands_of
    (port_state s (port_of s client) (v.port_calls (port_of s client))))) v.turns) (accepted (terms s) v.turns)
    (issued client v.turns) (handled q v.turns)
unfolding asked_by_event
message-asks s client link at q frame v app is = rw is refl

module _ (s : Settings) (h : History) (client link at : ℕ) (frame : Message) (b : Batch)
    (lawful : Lawful s (record { event = ClientMessage client link at frame; batch = b } ∷ h))
    (on : is_within_day h ≡ true) (c : Connection) (market : SimLink)
    (current : (lists s h).port_link (port_of s client) ≡ Some c.link) (logged : IsUp s h (port_of s client) → market ≡ LoggedIn) (U' : Type 0) (up : U' → IsUp s h (port_of s client)) where
  abbrev e : Event
  e = ClientMessage client link at frame

  abbrev v : Lists
  v = lists s h

  abbrev q : ℕ
  q = port_of s client

  abbrev MessageSends : Type 0
  MessageSends = Sends s (port_of s client) (order_turns s h) (outcome s e b v).turn market (IsUp s h q) U' c.to_market
      (carried c.link b.port_out (asked_by_event s e v q))

  g : Gives s (ClientMessage client link at frame) b (lists s h)
  g = on-day (Gives s (ClientMessage client link at frame) b (lists s h)) b (is_within_day h) on lawful.run.0

  nothing-sent : (o : Outcome) → outcome s (ClientMessage client link at frame) b (lists s h) ≡ o → o.turn ≡ None
      → to_port_of s o (lists s h) ≡ [] → MessageSends
  nothing-sent o is none silent = Quiet
      (ap (λ (outs : List LinkOut). asks_in (carried c.link outs (asked_by_event s e v q)))
      (g.port_out ∙ ap (λ (r : Outcome). to_port_of s r v) is ∙ silent)) up
      (λ x some up'. absurd (let f : ◌≡◌ {A = Option OrderTurn} None (Some x) = sym none
      ∙ ap (λ (r : Outcome). r.turn) (sym is) ∙ some in cc))

  the_turn : AppMsg → OrderTurn
  the_turn app = record {
    event = Came client (message_fields app) (stands_of
        (port_state s (port_of s client) ((lists s h).port_calls (port_of s client))));
    client = client;
    bodies = bodies b;
    sends = messages b;
    fault = None;
  }

  app-sent : (app : AppMsg) → (client_answer s client ((lists s h).client_calls client) (at, OnMessage frame)).app
      ≡ Some app → outcome s (ClientMessage client link at frame) b (lists s h)
      ≡ asked_by s client at frame b (lists s h) app → MessageSends
  unfolding port_state the_turn
  app-sent app app_is is = by_case (sends-case (stands_at s v q).state P (asks_now s q (the_turn app) v.turns)
      (messages b) answers.sends)
    where
      turn_is : (outcome s e b v).turn ≡ Some (the_turn app)
      turn_is = ap (λ (o : Outcome). o.turn) is

      P : Asked → List ℕ → Type 0
      P = Says (terms_of (terms s) client).standing
          (order_number (terms s) (port_of s client) (accepted (terms s) (the_turn app ∷ order_turns s h)))

      answers : AnswersClient (terms s) client (message_fields app)
          (stands_of (port_state s (port_of s client) ((lists s h).port_calls (port_of s client)))) (the_turn app)
          (order_turns s h)
      answers = (last-holds s h (record { event = e; batch = b }) lawful on (the_turn app) turn_is).0.answers

      outs_are : b.port_out ≡ messages_on c.link (messages b)
      outs_are =
          g.port_out ∙ ap (λ (r : Outcome). to_port_of s r v) is
          ∙ ap (λ (l : Option ℕ). to_port l (port_outs s (port_of s client) (v.port_calls (port_of s client))
          (sends at (messages b)))) current
          ∙ sends-written s (port_of s client) c.link at (messages b) (v.port_calls (port_of s client))

      asks_are : asked_by_event s e v q ≡ asks_now s q (the_turn app) v.turns
      asks_are = message-asks s client link at q frame v app app_is

      more_is : carried c.link b.port_out (asked_by_event s e v q)
          ≡ carried c.link (messages_on c.link (messages b)) (asks_now s q (the_turn app) v.turns)
      more_is = ap (λ (outs : List LinkOut). carried c.link outs (asked_by_event s e v q)) outs_are
          ∙ ap (λ (asks : List Asked). carried c.link (messages_on c.link (messages b)) asks) asks_are

      some : (y : Asked) (m : List ℕ) → P y m → SaysSome y m
      some y m k = record {
        standing = (terms_of (terms s) client).standing;
        order_of =
            order_number (terms s) (port_of s client) (accepted (terms s) (the_turn app ∷ order_turns s h));
        says = k;
      }

      by_case : ((is_up (stands_at s v q).state ≡ true) × EachWith P (asks_now s q (the_turn app) v.turns) (messages b))
          ⊎ ((is_up (stands_at s v q).state ≡ false) × (messages b ≡ [])) → MessageSends
      by_case (inl k) = Asks (on, k.0) (logged (on, k.0)) (the_turn app) turn_is
          (ap asks_in more_is ∙ sent-asks (terms s) q (the_turn app ∷ order_turns s h) c.link P some
          (asks_now s q (the_turn app) v.turns) (messages b) k.1)
          (subst (Each (CarriesIt (terms s) q (the_turn app ∷ order_turns s h))) (sym more_is)
          (sent-says (terms s) q (the_turn app ∷ order_turns s h) c.link P some (asks_now s q (the_turn app) v.turns)
          (messages b) k.1 (λ y i. in-right y (asked (terms s) q (order_turns s h))
          (asks_now s q (the_turn app) v.turns) i)))
      by_case (inr k) = Quiet (ap asks_in more_is
          ∙ ap (λ (ms : List (List ℕ)). asks_in (carried c.link (messages_on c.link ms)
          (asks_now s q (the_turn app) v.turns))) k.1) up
          (λ x some up'. absurd (let f : false ≡ true = sym k.0 ∙ (up up').1 in cc))

  pub message-sends : MessageSends
  message-sends = by_step (is_stepped s e v) refl
      (client_answer s client (v.client_calls client) (at, OnMessage frame)).app refl
    where
      by_step : (d : Bool) → is_stepped s e v ≡ d → (app : Option AppMsg)
          → (client_answer s client (v.client_calls client) (at, OnMessage frame)).app ≡ app → MessageSends
      by_step false off app is = nothing-sent nothing (cond-false (is_stepped s e v) _ _ off) refl
          (no-lines (v.port_link 0))
      by_step true step None is =
          nothing-sent (of_client client Stays ((at, OnMessage frame) ∷ []))
          (cond-true (is_stepped s e v) _ _ step ∙ ap (by_app s client at frame b v) is) refl
          (no-lines (v.port_link 0))
      by_step true step (Some app) is = app-sent app is
          (cond-true (is_stepped s e v) _ _ step ∙ ap (by_app s client at frame b v) is)

-- ---- a packet of the market, the oldest on its way

module _ (s : Settings) (h : History) (p at : ℕ) (packet : Packet) (b : Batch) (c : Connection) (rest : List Packet)
    (lawful : Lawful s (record { event = PortPacket p c.link at packet; batch = b } ∷ h)) (on : is_within_day h ≡ true)
    (has : has_port s p ≡ true) (way : c.to_core ≡ packet ∷ rest) (newer : List Outbound) (market : SimLink)
    (k : StepIn s (lists s h) p (length (handled p (order_turns s h))) newer market (Some c))
    (few : length (handled p (order_turns s h)) + 1 < 2 ^ 63) (faultless : b.fault ≡ None) (U' : Type 0) where
  abbrev its_event : Event
  its_event = PortPacket p c.link at packet

  abbrev before : Lists
  before = lists s h

  abbrev x : PortStanding
  x = stands_at s (lists s h) p

  abbrev PacketSends : Type 0
  PacketSends = Sends s p (order_turns s h) (outcome s its_event b before).turn market (IsUp s h p) U' c.to_market
      (carried c.link b.port_out (asked_by_event s its_event before p))

  packet-gives : Gives s (PortPacket p c.link at packet) b (lists s h)
  packet-gives = on-day (Gives s (PortPacket p c.link at packet) b (lists s h)) b (is_within_day h) on lawful.run.0

  packet-asks : AsksOf s (PortPacket p c.link at packet) b (lists s h)
  packet-asks = on-day (AsksOf s (PortPacket p c.link at packet) b (lists s h)) b (is_within_day h) on lawful.asks.0

  is-stepped : is_stepped s (PortPacket p c.link at packet) (lists s h) ≡ true
  is-stepped = rw (has, k.1) (eq-eqb c.link c.link refl)

  never : (d : Bool) → (d && false) ≡ false
  never true = refl
  never false = refl

  outcome-of : (a : PortAnswer) → answer_in (port_terms s p) (stands_at s (lists s h) p) (OnPacket packet at) ≡ a
      → outcome s (PortPacket p c.link at packet) b (lists s h) ≡ by_payload p at packet b a a.payload
  unfolding port_answer
  outcome-of a is = cond-true (is_stepped s its_event before) _ _ is-stepped
      ∙ ap (λ (r : PortAnswer). by_payload p at packet b r r.payload) is

  all-again : asked_by_event s (PortPacket p c.link at packet) (lists s h) p ≡ outstanding (terms s) p (order_turns s h)
  unfolding asked_by_event
  all-again = refl

  quiet-outs : (y : PortStanding) → answer_in (port_terms s p) (stands_at s (lists s h) p) (OnPacket packet at)
      ≡ quiet_answer y → b.port_out ≡ messages_on c.link (messages b)
  unfolding port_answer
  quiet-outs y is =
      packet-gives.port_out ∙ ap (λ (r : Outcome). to_port_of s r before) (outcome-of (quiet_answer y) is)
      ∙ ap (λ (l : Option ℕ). to_port l (port_outs s p (before.port_calls p)
      (OnPacket packet at ∷ sends at (messages b)))) k.1
      ∙ ap (λ (a : PortAnswer). to_port (Some c.link)
      (a.outs ++ port_outs s p (OnPacket packet at ∷ before.port_calls p) (sends at (messages b)))) is
      ∙ sends-written s p c.link at (messages b) (OnPacket packet at ∷ before.port_calls p)

  comes-up : (was now : Bool) (y : PortStanding) → is_up (stands_at s (lists s h) p).state ≡ was → is_up y.state ≡ now
      → answer_in (port_terms s p) (stands_at s (lists s h) p) (OnPacket packet at) ≡ quiet_answer y
      → (is_stepped s (PortPacket p c.link at packet) (lists s h)
      && comes_up s (PortPacket p c.link at packet) (lists s h)) ≡ (not was && now)
  unfolding port_state port_answer
  comes-up was now y is_was is_now is =
      let step = is-stepped in
      let after : is_up (answer_in (port_terms s p) x (OnPacket packet at)).after.state ≡ now =
      ap (λ (a : PortAnswer). is_up a.after.state) is ∙ is_now in
      rw (step, is_was, after) refl

  -- its login is accepted
  login-sends : (y : PortStanding) → answer_in (port_terms s p) (stands_at s (lists s h) p) (OnPacket packet at)
      ≡ quiet_answer y → is_up y.state ≡ true → is_up (stands_at s (lists s h) p).state ≡ false → c.to_market ≡ []
      → market ≡ LoggedIn → PacketSends
  login-sends y is up down empty logged = Again empty logged
      (ap (λ (o : Outcome). o.turn) (outcome-of (quiet_answer y) is))
      (ap asks_in more_is ∙ sent-asks (terms s) p (order_turns s h) c.link P some
      (outstanding (terms s) p (order_turns s h)) (messages b) again)
      (subst (Each (CarriesIt (terms s) p (order_turns s h))) (sym more_is)
      (sent-says (terms s) p (order_turns s h) c.link P some (outstanding (terms s) p (order_turns s h))
      (messages b) again (λ z i. outstanding-asked (terms s) p (order_turns s h) z i)))
    where
      P : Asked → List ℕ → Type 0
      P = SaysIn (terms s) (order_turns s h) p

      again : EachWith P (outstanding (terms s) p (order_turns s h)) (messages b)
      again = subst (λ (d : Bool). AsksAgain d s p (is_stepped s its_event before && false) b before)
          (comes-up false true y down up is) packet-asks

      some : (z : Asked) (m : List ℕ) → P z m → SaysSome z m
      some z m said = record { standing = _; order_of = _; says = said }

      more_is : carried c.link b.port_out (asked_by_event s its_event before p)
          ≡ carried c.link (messages_on c.link (messages b)) (outstanding (terms s) p (order_turns s h))
      more_is = ap (λ (outs : List LinkOut). carried c.link outs (asked_by_event s its_event before p))
          (quiet-outs y is) ∙ ap (λ (asks : List Asked). carried c.link (messages_on c.link (messages b)) asks)
          all-again

  -- a heartbeat
  beat-sends : (y : PortStanding) → answer_in (port_terms s p) (stands_at s (lists s h) p) (OnPacket packet at)
      ≡ quiet_answer y → is_up y.state ≡ true → is_up (stands_at s (lists s h) p).state ≡ true → PacketSends
  beat-sends y is up was = Quiet (ap (λ (outs : List LinkOut). asks_in
      (carried c.link outs (asked_by_event s its_event before p))) (quiet-outs y is ∙ ap (messages_on c.link) none))
      (λ u. (on, was))
      (λ z some u. absurd (let f : ◌≡◌ {A = Option OrderTurn} None (Some z) =
      ap (λ (o : Outcome). o.turn) (sym (outcome-of (quiet_answer y) is)) ∙ some in cc))
    where
      none : messages b ≡ []
      none = subst (λ (d : Bool). AsksOnlyThen d b) (never (is_stepped s its_event before))
          (subst (λ (d : Bool). AsksAgain d s p (is_stepped s its_event before && false) b before)
          (comes-up true true y was up is) packet-asks)

  -- the next message
  next-sends : (y : PortStanding) (payload : List ℕ)
      → answer_in (port_terms s p) (stands_at s (lists s h) p) (OnPacket packet at) ≡ arrives y payload
      → y.number ≡ wanted y → is_up (stands_at s (lists s h) p).state ≡ true → PacketSends
  unfolding port_answer
  next-sends y payload is number was = Quiet
      (ap (λ (outs : List LinkOut). asks_in (carried c.link outs (asked_by_event s its_event before p))) outs_are)
      (λ u. (on, was))
      (λ z some u. let same : the_turn' ≡ z = (let f : Some the_turn' ≡ Some z =
      ap (λ (o : Outcome). o.turn) (sym outcome_is) ∙ some in cc) in
      subst (λ (r : OrderTurn). asks_now s p r (order_turns s h) ≡ []) same refl)
    where
      the_turn' : OrderTurn
      the_turn' = record {
        event = Heard p (decoded payload);
        client = addressee b;
        bodies = bodies b;
        sends =
            [];
        fault = option_map fault_number b.fault;
      }

      outcome_is : outcome s its_event b before ≡ record (by_fault p at packet b None) { turn = Some the_turn' }
      outcome_is =
          let told : outcome s its_event b before ≡ told_outcome p at packet b payload =
          outcome-of (arrives y payload) is ∙ ap (by_payload p at packet b (arrives y payload))
          (arrives-next y payload number) in
          let faults : told_outcome p at packet b payload
          ≡ record (by_fault p at packet b None) { turn = Some the_turn' } =
          ap (λ (f : Option PortFault). record (by_fault p at packet b f) { turn = Some the_turn' }) faultless in
          told ∙ faults

      outs_are : b.port_out ≡ []
      outs_are =
          packet-gives.port_out ∙ ap (λ (r : Outcome). to_port_of s r before) outcome_is
          ∙ ap (λ (l : Option ℕ). to_port l (port_outs s p (before.port_calls p) (OnPacket packet at ∷ []))) k.1
          ∙ ap (λ (a : PortAnswer). to_port (Some c.link) (a.outs ++ [])) is

  pub packet-sends : PacketSends
  packet-sends = by_state k.2
    where
      by_first : IsServing x newer market c → FirstBehind packet rest (reverse newer) → PacketSends
      by_first i (Beats is behind) = beat-sends (heard_now (passed at x))
          (ap (λ (z : Packet). answer_in (port_terms s p) x (OnPacket z at)) is
          ∙ beat-answer (port_terms s p) x at (ap is_open i.state)) (ap is_up i.state) (ap is_up i.state)
      by_first i (Told_of m later newest is behind) =
          next-sends (heard_now (passed at x)) (outbound_bytes m)
          (ap (λ (z : Packet). answer_in (port_terms s p) x (OnPacket z at)) is
          ∙ sequenced-answer (port_terms s p) x at (outbound_bytes m) i.state) i.number (ap is_up i.state)

      by_state : OnConnection (port_terms s p) x (length (handled p (order_turns s h))) newer market c → PacketSends
      by_state (inl i) = absurd (let e : packet ∷ rest ≡ [] = sym way ∙ i.to_core in cc)
      by_state (inr (inl i)) =
          let lists_are : packet ∷ rest ≡ accepts_login (length (handled p (order_turns s h)) + 1) ∷ i.rest = sym way
          ∙ i.to_core in
          let is : packet ≡ accepts_login (length (handled p (order_turns s h)) + 1) = cc in
          login-sends (record (heard_now (passed at x))
          { state = Up; session = market_session; number = length (handled p (order_turns s h)) + 1 })
          (ap (λ (z : Packet). answer_in (port_terms s p) x (OnPacket z at)) is
          ∙ accepted-answer (port_terms s p) x at (length (handled p (order_turns s h)) + 1) i.state k.0.session
          k.0.wants (omega arith) few) refl (ap is_up i.state) i.to_market i.market_link
      by_state (inr (inr i)) = by_first i (first-behind packet rest (reverse newer)
          (subst (λ (xs : List Packet). AreBehind xs (reverse newer)) way i.behind))
