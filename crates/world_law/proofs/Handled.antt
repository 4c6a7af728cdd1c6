-- What a port's session was given in order is what the order level handled of the port.
use Rattle.std.proofs.Common.{◌≡◌, ◌+◌, ◌==◌, ℕ, Bool, true, false, List, [], ◌∷◌, length, Option, Some, None, Result}
use Rattle.std.proofs.Common.{Ok, Err, refl, sym, ap, ◌∙◌, subst, eq-eqb, inl, inr, option_map, arith}
use Rattle.std.proofs.lemmas.Bool.{eqb-true, cases_Bool, cond-true, cond-false}
use Rattle.std.specs.Prelude.{if◌then◌else◌, ◌⊎◌}
use Rattle.session_law.specs.fix_types.declared.application.AppMsg.{AppMsg}
use Rattle.session_law.specs.Runs.{OnMessage}
use Rattle.soup_packets.specs.declared.packet.Packet.{Packet}
use Rattle.soup_session.specs.declared.port_fault.PortFault.{PortFault}
use Rattle.soup_session.specs.Faults.{fault_number}
use Rattle.soup_session.specs.Delivered.{Arrival, delivered}
use Rattle.soup_session.specs.Calls.{and_payload}
use Rattle.soup_session.specs.Table.{PortCall, OnPacket, PortAnswer, standing, wanted}
use Rattle.order_law.specs.ouch_codec.declared.outbound.Outbound.{Outbound}
use Rattle.order_law.specs.ouch_codec.declared.refusal.DecodeRefusal.{DecodeRefusal}
use Rattle.order_law.specs.ouch_codec.Values.{decoded}
use Rattle.order_law.specs.History.{Heard, OrderHistory, OrderTurn, Terms, handled}
use Rattle.order_law.specs.Lawful.{judgement}
use Rattle.order_law.specs.Headline.{Headline}
use Rattle.gate_law.specs.Settings.{Settings, port_terms, terms}
use Rattle.gate_law.specs.Events.{Event, ClientUp, ClientMessage, ClientGone, ClientTick, PortUp, PortPacket, PortGone}
use Rattle.gate_law.specs.Events.{PortTick, Batch, Turn, History}
use Rattle.gate_law.specs.Lists.{Lists, turned}
use Rattle.gate_law.specs.Sessions.{client_answer, port_answer}
use Rattle.gate_law.specs.Outcome.{Outcome, Refused, nothing, of_client, of_port, client_up, port_up, by_app, by_fault}
use Rattle.gate_law.specs.Outcome.{by_payload, told_outcome, by_event, outcome, is_stepped, messages, bodies, addressee}
use Rattle.gate_law.specs.After.{lists, lists_after, order_turns, is_within_day}
use Rattle.gate_law.specs.Holds.{Holds}
use Rattle.gate_law.proofs.Parts.{called, own-calls, other-calls}
use Rattle.gate_law.proofs.Telling.{turns-after}
use Rattle.world_law.specs.Ports.{port_standing, NoFaults, AreDecoded}
use Rattle.world_law.proofs.Delivered.{packet-brings, up-brings, tick-brings, gone-brings, sends-bring}

-- ---- what one turn adds to what is handled

pub heard-other : (p q : ℕ) (heard : Result Outbound DecodeRefusal) (t : OrderTurn) (before : OrderHistory)
    → (q == p) ≡ false → handled p (record t { event = Heard q heard } ∷ before) ≡ handled p before
heard-other p q (Err refusal) t before apart = refl
heard-other p q (Ok m) t before apart = rw apart refl

-- a payload that is no fault is a message, and is handled
pub record IsHeard (p : ℕ) (payload : List ℕ) (t : OrderTurn) (before : OrderHistory) : Type 0 where
  pub message : Outbound
  pub reads : decoded payload ≡ Ok message
  pub adds : handled p (record t { event = Heard p (decoded payload) } ∷ before) ≡ message ∷ handled p before

pub heard-own : (ts : List Terms) (p : ℕ) (payload : List ℕ) (t : OrderTurn) (before : OrderHistory) → t.fault ≡ None
    → judgement ts p (decoded payload) before ≡ None → IsHeard p payload t before
heard-own ts p payload t before none judged = by_heard (decoded payload) refl judged
  where
    by_heard : (heard : Result Outbound DecodeRefusal) → decoded payload ≡ heard → judgement ts p heard before ≡ None
        → IsHeard p payload t before
    by_heard (Err refusal) is judged = absurd (cc)
    by_heard (Ok m) is judged = record { message = m; reads = is; adds = rw (is, none, eq-eqb p p refl) refl }

-- ---- an outcome

module _ (s : Settings) (p : ℕ) (v : Lists) where
  abbrev pub IsHandled : Type 0
  IsHandled = AreDecoded (delivered (port_standing s v p).arrived) (handled p v.turns)

  abbrev calls_with : Outcome → List PortCall
  calls_with o = if p == o.port then called o.port_calls (v.port_calls p) else v.port_calls p

  abbrev pub Handles : Outcome → Type 0
  Handles o = AreDecoded (delivered (standing (port_terms s p) (calls_with o)).arrived)
      (handled p (turned o.turn v).turns)

  -- an outcome by which nothing is delivered and nothing handled
  quiet-handles : (o : Outcome) → handled p (turned o.turn v).turns ≡ handled p v.turns
      → ((p == o.port) ≡ true → delivered (standing (port_terms s p) (called o.port_calls (v.port_calls p))).arrived
      ≡ delivered (port_standing s v p).arrived)
      → IsHandled → Handles o
  quiet-handles o same_turns same_calls was =
      subst (λ (ms : List Outbound). AreDecoded (delivered (standing (port_terms s p) (calls_with o)).arrived) ms)
      (sym same_turns)
      (subst (λ (payloads : List (List ℕ)). AreDecoded payloads (handled p v.turns))
      (sym (by_port (p == o.port) refl)) was)
    where
      by_port : (w : Bool) → (p == o.port) ≡ w → delivered
          (standing (port_terms s p) (if w then called o.port_calls (v.port_calls p) else v.port_calls p)).arrived
          ≡ delivered (port_standing s v p).arrived
      by_port true e = same_calls e
      by_port false e = refl

  none-handles : (o : Outcome) → o.turn ≡ None → o.port_calls ≡ [] → IsHandled → Handles o
  none-handles o no_turn no_calls =
      quiet-handles o (ap (λ (t : Option OrderTurn). handled p (turned t v).turns) no_turn)
      (λ e. ap (λ (cs : List PortCall). delivered (standing (port_terms s p) (called cs (v.port_calls p))).arrived)
      no_calls)

  -- ---- a port's packet

  -- another port's packet
  packet-other : (q : ℕ) (o : Outcome) → o.port ≡ q → (p == q) ≡ false
      → handled p (turned o.turn v).turns ≡ handled p v.turns → IsHandled → Handles o
  packet-other q o is apart same_turns = quiet-handles o same_turns
      (λ e. absurd (clash (ap (λ (n : ℕ). p == n) (sym is) ∙ e)))
    where
      clash : (p == q) ≡ true → ⊥
      clash e = absurd (cc)

  -- nothing of the port's own packet is delivered
  packet-quiet : (at : ℕ) (packet : Packet) (b : Batch)
      → (port_answer s p (v.port_calls p) (OnPacket packet at)).payload ≡ None → IsHandled
      → Handles (by_payload p at packet b (port_answer s p (v.port_calls p) (OnPacket packet at)) None)
  unfolding port_answer
  packet-quiet at packet b none =
      quiet-handles (by_payload p at packet b (port_answer s p (v.port_calls p) (OnPacket packet at)) None) refl (λ e.
      ap (λ (arrived : List Arrival). delivered arrived)
      (sends-bring (port_terms s p) at (messages b) (OnPacket packet at ∷ v.port_calls p))
      ∙ packet-brings (port_terms s p) (v.port_calls p) packet at
      ∙ ap (λ (x : Option (List ℕ)). and_payload x (delivered (port_standing s v p).arrived)) none)

  -- its payload is delivered, and is no fault
  packet-delivered : (at : ℕ) (packet : Packet) (b : Batch) (payload : List ℕ) → b.fault ≡ None
      → (port_answer s p (v.port_calls p) (OnPacket packet at)).payload ≡ Some payload
      → Headline (terms s) (turned (told_outcome p at packet b payload).turn v).turns → IsHandled
      → Handles (told_outcome p at packet b payload)
  unfolding port_answer
  packet-delivered at packet b payload none is orders was =
      by_fault_of b.fault none (heard-own (terms s) p payload turn v.turns no_fault
      (sym orders.0.answers.fault ∙ no_fault))
    where
      turn : OrderTurn
      turn = record {
        event = Heard p (decoded payload);
        client = addressee b;
        bodies = bodies b;
        sends = [];
        fault =
            option_map fault_number b.fault;
      }

      no_fault : option_map fault_number b.fault ≡ None
      no_fault = rw none refl

      by_fault_of : (fault : Option PortFault) → fault ≡ None → IsHeard p payload turn v.turns
          → Handles (record (by_fault p at packet b fault) { turn = Some turn })
      by_fault_of (Some f) e heard = absurd (cc)
      by_fault_of None e heard =
          subst (λ (ms : List Outbound). AreDecoded
          (delivered (standing (port_terms s p) (if p == p then OnPacket packet at ∷ v.port_calls p else
          v.port_calls p)).arrived) ms) (sym heard.adds)
          (subst (λ (payloads : List (List ℕ)). AreDecoded payloads (heard.message ∷ handled p v.turns)) (sym payloads)
          (heard.reads, was))
        where
          payloads : delivered (standing (port_terms s p)
              (if p == p then OnPacket packet at ∷ v.port_calls p else v.port_calls p)).arrived
              ≡ payload ∷ delivered (port_standing s v p).arrived
          payloads =
              ap (λ (w : Bool). delivered (standing (port_terms s p)
              (if w then OnPacket packet at ∷ v.port_calls p else v.port_calls p)).arrived) (eq-eqb p p refl)
              ∙ packet-brings (port_terms s p) (v.port_calls p) packet at
              ∙ ap (λ (x : Option (List ℕ)). and_payload x (delivered (port_standing s v p).arrived)) is

  -- another port's packet, delivered or not
  payload-other : (q at : ℕ) (packet : Packet) (b : Batch) (a : PortAnswer) (payload : Option (List ℕ))
      → (p == q) ≡ false → (q == p) ≡ false → IsHandled → Handles (by_payload q at packet b a payload)
  payload-other q at packet b a None apart away = packet-other q (by_payload q at packet b a None) refl apart refl
  payload-other q at packet b a (Some payload) apart away = by_fault_of b.fault
    where
      turn : OrderTurn
      turn = record {
        event = Heard q (decoded payload);
        client = addressee b;
        bodies = bodies b;
        sends = [];
        fault =
            option_map fault_number b.fault;
      }

      by_fault_of : (fault : Option PortFault) → IsHandled
          → Handles (record (by_fault q at packet b fault) { turn = Some turn })
      by_fault_of None = packet-other q (record (by_fault q at packet b None) { turn = Some turn }) refl apart
          (heard-other p q (decoded payload) turn v.turns away)
      by_fault_of (Some f) = packet-other q (record (by_fault q at packet b (Some f)) { turn = Some turn }) refl apart
          (heard-other p q (decoded payload) turn v.turns away)

  payload-own : (at : ℕ) (packet : Packet) (b : Batch) (payload : Option (List ℕ)) → b.fault ≡ None
      → (port_answer s p (v.port_calls p) (OnPacket packet at)).payload ≡ payload
      → Headline (terms s) (turned (by_payload p at packet b
      (port_answer s p (v.port_calls p) (OnPacket packet at)) payload).turn v).turns → IsHandled
      → Handles (by_payload p at packet b (port_answer s p (v.port_calls p) (OnPacket packet at)) payload)
  payload-own at packet b None none is orders = packet-quiet at packet b is
  payload-own at packet b (Some payload) none is orders = packet-delivered at packet b payload none is orders

  -- ---- an event

  event-handled : (e : Event) (b : Batch) → b.fault ≡ None → Headline (terms s) (turned (by_event s e b v).turn v).turns
      → IsHandled → Handles (by_event s e b v)
  event-handled (ClientUp client link at) b none orders = by_link (v.client_link client)
    where
      by_link : (current : Option ℕ) → IsHandled → Handles (client_up client link at current)
      by_link None = none-handles (client_up client link at None) refl refl
      by_link (Some n) = by_number (n == link)
        where
          by_number : (w : Bool) → IsHandled → Handles (if w then nothing else of_client client (Refused link) [])
          by_number true = none-handles nothing refl refl
          by_number false = none-handles (of_client client (Refused link) []) refl refl
  event-handled (ClientMessage client link at frame) b none orders =
      by_app_of (client_answer s client (v.client_calls client) (at, OnMessage frame)).app
    where
      by_app_of : (app : Option AppMsg) → IsHandled → Handles (by_app s client at frame b v app)
      by_app_of None = none-handles (by_app s client at frame b v None) refl refl
      by_app_of (Some app) = quiet-handles (by_app s client at frame b v (Some app)) refl
          (λ e. ap (λ (arrived : List Arrival). delivered arrived)
          (sends-bring (port_terms s p) at (messages b) (v.port_calls p)))
  event-handled (ClientGone client link at) b none orders =
      none-handles (by_event s (ClientGone client link at) b v) refl refl
  event-handled (ClientTick client at) b none orders = none-handles (by_event s (ClientTick client at) b v) refl refl
  event-handled (PortUp q link at) b none orders = by_link (v.port_link q)
    where
      by_link : (current : Option ℕ) → IsHandled → Handles (port_up q link at current)
      by_link None = quiet-handles (port_up q link at None) refl
          (λ e. ap (λ (arrived : List Arrival). delivered arrived) (up-brings (port_terms s p) (v.port_calls p) at))
      by_link (Some n) = by_number (n == link)
        where
          by_number : (w : Bool) → IsHandled → Handles (if w then nothing else of_port q (Refused link) [])
          by_number true = none-handles nothing refl refl
          by_number false = none-handles (of_port q (Refused link) []) refl refl
  event-handled (PortPacket q link at packet) b none orders = by_port (cases_Bool (p == q))
    where
      own : p ≡ q → Headline (terms s) (turned (by_payload q at packet b
          (port_answer s q (v.port_calls q) (OnPacket packet at))
          (port_answer s q (v.port_calls q) (OnPacket packet at)).payload).turn v).turns
          → IsHandled → Handles (by_payload q at packet b (port_answer s q (v.port_calls q) (OnPacket packet at))
          (port_answer s q (v.port_calls q) (OnPacket packet at)).payload)
      own same =
          subst (λ (n : ℕ). Headline (terms s) (turned
          (by_payload n at packet b (port_answer s n (v.port_calls n) (OnPacket packet at))
          (port_answer s n (v.port_calls n) (OnPacket packet at)).payload).turn v).turns
          → IsHandled → Handles (by_payload n at packet b (port_answer s n (v.port_calls n) (OnPacket packet at))
          (port_answer s n (v.port_calls n) (OnPacket packet at)).payload))
          same (payload-own at packet b (port_answer s p (v.port_calls p) (OnPacket packet at)).payload none refl)

      by_port : ((p == q) ≡ true) ⊎ ((p == q) ≡ false) → IsHandled
          → Handles (by_event s (PortPacket q link at packet) b v)
      by_port (inl same) = own (eqb-true p q same) orders
      by_port (inr apart) = payload-other q at packet b (port_answer s q (v.port_calls q) (OnPacket packet at))
          (port_answer s q (v.port_calls q) (OnPacket packet at)).payload apart (away apart)
        where
          away : (p == q) ≡ false → (q == p) ≡ false
          away e = by_away (cases_Bool (q == p))
            where
              by_away : ((q == p) ≡ true) ⊎ ((q == p) ≡ false) → (q == p) ≡ false
              by_away (inl same) = absurd (clash (eq-eqb p q (sym (eqb-true q p same))))
                where
                  clash : (p == q) ≡ true → ⊥
                  clash f = absurd (cc)
              by_away (inr is) = is
  event-handled (PortGone q link at) b none orders =
      quiet-handles (by_event s (PortGone q link at) b v) refl
      (λ e. ap (λ (arrived : List Arrival). delivered arrived) (gone-brings (port_terms s p) (v.port_calls p)))
  event-handled (PortTick q at) b none orders =
      quiet-handles (by_event s (PortTick q at) b v) refl
      (λ e. ap (λ (arrived : List Arrival). delivered arrived) (tick-brings (port_terms s p) (v.port_calls p) at))

  stepped-handled : (e : Event) (b : Batch) → b.fault ≡ None
      → Headline (terms s) (turned (outcome s e b v).turn v).turns → IsHandled → Handles (outcome s e b v)
  stepped-handled e b none = by_step (is_stepped s e v)
    where
      by_step : (w : Bool) → Headline (terms s) (turned (if w then by_event s e b v else nothing).turn v).turns
          → IsHandled → Handles (if w then by_event s e b v else nothing)
      by_step true orders = event-handled e b none orders
      by_step false orders = none-handles nothing refl refl

  -- the lists after an event
  pub after-handled : (e : Event) (b : Batch) → b.fault ≡ None → Headline (terms s) (lists_after s e b v).turns
      → IsHandled
      → AreDecoded (delivered (port_standing s (lists_after s e b v) p).arrived) (handled p (lists_after s e b v).turns)
  after-handled e b none orders was =
      subst (λ (turns : OrderHistory). AreDecoded (delivered (port_standing s (lists_after s e b v) p).arrived)
      (handled p turns)) (sym turns)
      (subst (λ (cs : List PortCall). AreDecoded (delivered (standing (port_terms s p) cs).arrived)
      (handled p (turned o.turn v).turns)) (sym calls)
      (stepped-handled e b none (subst (Headline (terms s)) turns orders) was))
    where
      o : Outcome
      o = outcome s e b v

      turns : (lists_after s e b v).turns ≡ (turned o.turn v).turns
      turns = turns-after o b v

      calls : (lists_after s e b v).port_calls p ≡ calls_with o
      calls = by_port (cases_Bool (p == o.port))
        where
          by_port : ((p == o.port) ≡ true) ⊎ ((p == o.port) ≡ false) → (lists_after s e b v).port_calls p ≡ calls_with o
          by_port (inl same) = own-calls o b v p same ∙ sym (cond-true (p == o.port) _ _ same)
          by_port (inr apart) = other-calls o b v p apart ∙ sym (cond-false (p == o.port) _ _ apart)

-- ---- a history

-- the headline of the turns before the last event
orders-before : (s : Settings) (t : Turn) (before : History) → Headline (terms s) (order_turns s (t ∷ before))
    → Headline (terms s) (order_turns s before)
orders-before s t before = by_day (is_within_day before)
  where
    by_turn : (x : Option OrderTurn) (v : Lists) → Headline (terms s) (turned x v).turns → Headline (terms s) v.turns
    by_turn None v orders = orders
    by_turn (Some turn) v orders = orders.1

    by_day : (w : Bool) → Headline (terms s) (if w then lists_after s t.event t.batch
        (lists s before) else lists s before).turns → Headline (terms s) (lists s before).turns
    by_day true orders =
        by_turn (outcome s t.event t.batch (lists s before)).turn (lists s before)
        (subst (Headline (terms s)) (turns-after (outcome s t.event t.batch (lists s before)) t.batch (lists s before))
        orders)
    by_day false orders = orders

history-handled : (s : Settings) (h : History) → Headline (terms s) (order_turns s h) → NoFaults h → (p : ℕ)
    → AreDecoded (delivered (port_standing s (lists s h) p).arrived) (handled p (order_turns s h))
history-handled s [] orders none p = tt
history-handled s (t ∷ before) orders none p =
    by_day (is_within_day before) orders (history-handled s before (orders-before s t before orders) none.1 p)
  where
    by_day : (w : Bool) → Headline (terms s) (if w then lists_after s t.event t.batch
        (lists s before) else lists s before).turns → IsHandled s p (lists s before)
        → AreDecoded (delivered (port_standing s (if w then lists_after s t.event t.batch
        (lists s before) else lists s before) p).arrived)
        (handled p (if w then lists_after s t.event t.batch (lists s before) else lists s before).turns)
    by_day true orders was = after-handled s p (lists s before) t.event t.batch none.0 orders was
    by_day false orders was = was

pub delivered-handled : (s : Settings) (h : History) → Holds s h → NoFaults h → (p : ℕ)
    → AreDecoded (delivered (port_standing s (lists s h) p).arrived) (handled p (order_turns s h))
delivered-handled s h holds none p = history-handled s h holds.orders none p

decoded-length : (payloads : List (List ℕ)) (ms : List Outbound) → AreDecoded payloads ms → length payloads ≡ length ms
decoded-length [] [] are = refl
decoded-length [] (m ∷ ms) are = absurd are
decoded-length (x ∷ xs) [] are = absurd are
decoded-length (x ∷ xs) (m ∷ ms) are = let same = decoded-length xs ms are.1 in omega (arith, same)

pub wanted-handled : (s : Settings) (h : History) → Holds s h → NoFaults h → (p : ℕ)
    → wanted (port_standing s (lists s h) p) ≡ length (handled p (order_turns s h)) + 1
wanted-handled s h holds none p = ap (λ (n : ℕ). n + 1) (decoded-length _ _ (delivered-handled s h holds none p))
