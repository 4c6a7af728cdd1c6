-- What a batch writes to a port was asked of the port.
use Rattle.std.proofs.Common.{◌≡◌, ℕ, Bool, true, false, List, [], ◌∷◌, refl, sym, ap, ◌∙◌, subst, Option, Some, None}
use Rattle.std.specs.Prelude.{◌&&◌, if◌then◌else◌}
use Rattle.session_law.specs.fix_types.declared.application.AppMsg.{AppMsg}
use Rattle.session_law.specs.fix_types.Application.{message_fields}
use Rattle.session_law.specs.Runs.{OnMessage, Timed}
use Rattle.soup_packets.specs.declared.packet.Packet.{Packet}
use Rattle.soup_session.specs.Table as port
use Rattle.fix_fields.specs.Field.{Message}
use Rattle.order_law.specs.History.{Terms, Came, OrderHistory, OrderTurn}
use Rattle.order_law.specs.Headline.{Each, Headline}
use Rattle.gate_law.specs.Settings.{Settings, port_of, terms}
use Rattle.gate_law.specs.Events.{Event, ClientUp, ClientMessage, ClientGone, ClientTick, PortUp, PortPacket, PortGone}
use Rattle.gate_law.specs.Events.{PortTick, Batch, History, is_for_port}
use Rattle.gate_law.specs.Lists.{Lists, client_called, client_called_all, port_called, port_called_all, turned}
use Rattle.gate_law.specs.Sessions.{client_answer, port_state, stands_of}
use Rattle.gate_law.specs.Outcome.{LinkMove, Stays, Comes, Goes, Refused, bodies, is_stepped, messages, outcome}
use Rattle.gate_law.specs.After.{client_moved, is_within_day, lists, lists_after, order_turns, port_moved}
use Rattle.gate_law.specs.Due.{Gives, due_port, port_named}
use Rattle.gate_law.specs.Promises.{Asks, AsksAgain, comes_up, delivers_message, port_in}
use Rattle.gate_law.specs.Holds.{Holds, OfTurn}
use Rattle.world_law.specs.Asked.{BytesAsked, asked}
use Rattle.world_law.proofs.Members.{in-left}
use Rattle.world_law.proofs.Sent.{again-asked, turn-asked}

-- ---- the turns of the order level after an event

client-turns : (c : ℕ) (calls : List Timed) (v : Lists) → (client_called_all c calls v).turns ≡ v.turns
client-turns c [] v = refl
client-turns c (call ∷ calls) v = client-turns c calls (client_called c call v)

port-turns : (p : ℕ) (calls : List port.PortCall) (v : Lists) → (port_called_all p calls v).turns ≡ v.turns
port-turns p [] v = refl
port-turns p (call ∷ calls) v = port-turns p calls (port_called p call v)

client-moved : (c : ℕ) (m : LinkMove) (v : Lists) → (client_moved c m v).turns ≡ v.turns
client-moved c Stays v = refl
client-moved c (Comes link) v = refl
client-moved c Goes v = refl
client-moved c (Refused link) v = refl

port-moved : (p : ℕ) (m : LinkMove) (v : Lists) → (port_moved p m v).turns ≡ v.turns
port-moved p Stays v = refl
port-moved p (Comes link) v = refl
port-moved p Goes v = refl
port-moved p (Refused link) v = refl

turns-after : (s : Settings) (e : Event) (b : Batch) (v : Lists)
    → (lists_after s e b v).turns ≡ (turned (outcome s e b v).turn v).turns
turns-after s e b v =
    port-turns (outcome s e b v).port (outcome s e b v).port_calls _
    ∙ port-moved (outcome s e b v).port (outcome s e b v).port_link _
    ∙ client-turns (outcome s e b v).client (outcome s e b v).client_calls _
    ∙ client-moved (outcome s e b v).client (outcome s e b v).client_link _

-- ---- what was asked stays asked

bytes-kept : (ts : List Terms) (p : ℕ) (t : OrderTurn) (before : OrderHistory) (ms : List (List ℕ))
    → Each (BytesAsked ts p before) ms → Each (BytesAsked ts p (t ∷ before)) ms
bytes-kept ts p t before [] each = tt
bytes-kept ts p t before (m ∷ ms) each = (
  record {
    asks = each.0.asks;
    there = in-left each.0.asks (asked ts p before) _ each.0.there;
    standing =
        each.0.standing;
    order_of = each.0.order_of;
    says = each.0.says;
  },
  bytes-kept ts p t before ms each.1,
)

kept-by : (ts : List Terms) (p : ℕ) (x : Option OrderTurn) (v : Lists) (ms : List (List ℕ))
    → Each (BytesAsked ts p v.turns) ms → Each (BytesAsked ts p (turned x v).turns) ms
kept-by ts p None v ms each = each
kept-by ts p (Some t) v ms each = bytes-kept ts p t v.turns ms each

none-asked : (ts : List Terms) (p : ℕ) (h : OrderHistory) (ms : List (List ℕ)) → ms ≡ [] → Each (BytesAsked ts p h) ms
none-asked ts p h ms e = subst (Each (BytesAsked ts p h)) (sym e) tt

and-false : (b : Bool) → (b && false) ≡ false
and-false true = refl
and-false false = refl

-- ---- an event

module _ (s : Settings) (b : Batch) (v : Lists) (p : ℕ) where
  abbrev pub IsAsked : Event → Type 0
  IsAsked e = Each (BytesAsked (terms s) p (turned (outcome s e b v).turn v).turns) (messages b)

  -- the port that a batch is for
  its-port : (e : Event) → b.port ≡ due_port s e b → b.port ≡ Some p → port_named s e ≡ p
  its-port e due is = by_for (is_for_port b) (sym due ∙ is)
    where
      by_for : (f : Bool) → (if f then Some (port_named s e) else None) ≡ Some p → port_named s e ≡ p
      by_for true e = cc
      by_for false e = absurd (cc)

  -- an event by which nothing is sent
  sends-none : (e : Event) → comes_up s e v ≡ false → delivers_message s e v ≡ false → Asks s e b v → IsAsked e
  sends-none e no_up no_message asks =
      none-asked (terms s) p _ (messages b) (by_tests (is_stepped s e v && comes_up s e v)
      (is_stepped s e v && delivers_message s e v)
      (ap (λ c. is_stepped s e v && c) no_up ∙ and-false (is_stepped s e v))
      (ap (λ c. is_stepped s e v && c) no_message ∙ and-false (is_stepped s e v)) asks)
    where
      by_tests : (c d : Bool) → c ≡ false → d ≡ false → AsksAgain c s (port_in e) d b v → messages b ≡ []
      by_tests true d e f asks = absurd (cc)
      by_tests false true e f asks = absurd (cc)
      by_tests false false e f asks = asks

  -- a port's packet, by which it may come up
  by-packet : (q link at : ℕ) (packet : Packet) → q ≡ p → Asks s (PortPacket q link at packet) b v
      → IsAsked (PortPacket q link at packet)
  by-packet q link at packet same asks =
      by_up (is_stepped s (PortPacket q link at packet) v && comes_up s (PortPacket q link at packet) v)
      (is_stepped s (PortPacket q link at packet) v && false)
      (and-false (is_stepped s (PortPacket q link at packet) v)) asks
    where
      by_up : (c d : Bool) → d ≡ false → AsksAgain c s q d b v → IsAsked (PortPacket q link at packet)
      by_up true d e asks = kept-by (terms s) p (outcome s (PortPacket q link at packet) b v).turn v (messages b)
          (subst (λ (r : ℕ). Each (BytesAsked (terms s) r v.turns) (messages b)) same
          (again-asked (terms s) q v.turns (messages b) asks))
      by_up false true e asks = absurd (cc)
      by_up false false e asks = none-asked (terms s) p _ (messages b) asks

  -- a client's message that is delivered
  pub by-message : (client link at : ℕ) (frame : Message) → port_of s client ≡ p
      → Headline (terms s) (turned (outcome s (ClientMessage client link at frame) b v).turn v).turns
      → Asks s (ClientMessage client link at frame) b v → IsAsked (ClientMessage client link at frame)
  by-message client link at frame same headline asks =
      by_step (is_stepped s (ClientMessage client link at frame) v) refl
      (client_answer s client (v.client_calls client) (at, OnMessage frame)).app refl headline asks
    where
      e : Event
      e = ClientMessage client link at frame

      by_step : (c : Bool) → is_stepped s e v ≡ c → (app : Option AppMsg)
          → (client_answer s client (v.client_calls client) (at, OnMessage frame)).app ≡ app
          → Headline (terms s) (turned (outcome s e b v).turn v).turns → Asks s e b v → IsAsked e
      by_step false off app is headline asks = none-asked (terms s) p _ (messages b) (rw off at asks)
      by_step true on None is headline asks = none-asked (terms s) p _ (messages b) (rw (on, is) at asks)
      by_step true on (Some app) is headline asks =
          subst (λ (x : Option OrderTurn). Each (BytesAsked (terms s) p (turned x v).turns) (messages b)) (sym turn_is)
          (subst (λ (r : ℕ). Each (BytesAsked (terms s) r (the_turn app ∷ v.turns)) (messages b)) same
          (turn-asked (terms s) v.turns (the_turn app) client (message_fields app)
          (stands_of (port_state s (port_of s client) (v.port_calls (port_of s client)))) refl
          (subst (λ (x : Option OrderTurn). Headline (terms s) (turned x v).turns) turn_is headline).0))
        where
          the_turn : AppMsg → OrderTurn
          the_turn a = record {
            event = Came client (message_fields a) (stands_of
                (port_state s (port_of s client) (v.port_calls (port_of s client))));
            client = client;
            bodies = bodies b;
            sends = messages b;
            fault = None;
          }

          turn_is : (outcome s e b v).turn ≡ Some (the_turn app)
          turn_is = rw (on, is) refl

  by-event : (e : Event) → b.port ≡ due_port s e b → b.port ≡ Some p
      → Headline (terms s) (turned (outcome s e b v).turn v).turns → Asks s e b v → IsAsked e
  by-event (ClientUp client link at) due is headline asks = sends-none (ClientUp client link at) refl refl asks
  by-event (ClientMessage client link at frame) due is headline asks =
      by-message client link at frame (its-port (ClientMessage client link at frame) due is) headline asks
  by-event (ClientGone client link at) due is headline asks = sends-none (ClientGone client link at) refl refl asks
  by-event (ClientTick client at) due is headline asks = sends-none (ClientTick client at) refl refl asks
  by-event (PortUp q link at) due is headline asks = sends-none (PortUp q link at) refl refl asks
  by-event (PortPacket q link at packet) due is headline asks =
      by-packet q link at packet (its-port (PortPacket q link at packet) due is) asks
  by-event (PortGone q link at) due is headline asks = sends-none (PortGone q link at) refl refl asks
  by-event (PortTick q at) due is headline asks = sends-none (PortTick q at) refl refl asks

-- ---- a history

on-day : (P : Type 0) (b : Batch) (c : Bool) → c ≡ true → OfTurn c P b → P
on-day P b true e x = x
on-day P b false e x = absurd (cc)

pub written-asked : (s : Settings) (h : History) (e : Event) (b : Batch) (p : ℕ) → is_within_day h ≡ true
    → Holds s (record { event = e; batch = b } ∷ h) → b.port ≡ Some p
    → Each (BytesAsked (terms s) p (order_turns s (record { event = e; batch = b } ∷ h))) (messages b)
written-asked s h e b p within holds is =
    let turns : order_turns s (record { event = e; batch = b } ∷ h)
    ≡ (turned (outcome s e b (lists s h)).turn (lists s h)).turns = by_day (is_within_day h) within in
    let gives : Gives s e b (lists s h) = on-day (Gives s e b (lists s h)) b (is_within_day h) within holds.run.0 in
    let asks : Asks s e b (lists s h) = on-day (Asks s e b (lists s h)) b (is_within_day h) within holds.asks.0 in
    subst (λ (x : OrderHistory). Each (BytesAsked (terms s) p x) (messages b)) (sym turns)
    (by-event s b (lists s h) p e gives.port is (subst (Headline (terms s)) turns holds.orders) asks)
  where
    by_day : (c : Bool) → c ≡ true → (if c then lists_after s e b (lists s h) else lists s h).turns
        ≡ (turned (outcome s e b (lists s h)).turn (lists s h)).turns
    by_day true on = turns-after s e b (lists s h)
    by_day false on = absurd (cc)
