-- A fault closes its port alone: of every event with the batch that it gives.
use Rattle.std.proofs.Common.{◌≡◌, ◌==◌, ℕ, Bool, true, false, not, List, [], ◌∷◌, Option, Some, None, refl, ap, sym}
use Rattle.std.proofs.Common.{◌∙◌, is_some, option_map, length, eq-eqb, inl, inr}
use Rattle.std.proofs.lemmas.Bool.{eqb-false, ne_eqb, cases_Bool, cond-true, cond-false}
use Rattle.std.specs.Prelude.{if◌then◌else◌, ◌&&◌, ◌⊎◌}
use Rattle.session_law.specs.fix_types.declared.application.AppMsg.{AppMsg}
use Rattle.soup_packets.specs.declared.packet.Packet.{Packet}
use Rattle.order_law.specs.ouch_codec.Values.{decoded}
use Rattle.soup_session.specs.declared.port_fault.PortFault.{PortFault}
use Rattle.soup_session.specs.declared.port_state.PortState.{PortState}
use Rattle.soup_session.specs.declared.port_state.PortState.TheVariants.{Down, LoggingIn, Up, Ended, Faulted}
use Rattle.soup_session.specs.Faults.{fault_number}
use Rattle.soup_session.specs.States.{is_open}
use Rattle.soup_session.specs.Table.{PortCall, OnPacket, Fail}
use Rattle.session_law.specs.Runs.{OnMessage}
use Rattle.fix_fields.specs.Field.{Message}
use Rattle.order_law.specs.History as orders
use Rattle.gate_law.specs.Settings.{Settings}
use Rattle.gate_law.specs.Events.{Event, ClientUp, ClientMessage, ClientGone, ClientTick, PortUp, PortPacket, PortGone}
use Rattle.gate_law.specs.Events.{PortTick, LinkOut, Batch, is_the_number, is_for_port}
use Rattle.gate_law.specs.Lists.{Lists}
use Rattle.gate_law.specs.Sessions.{client_answer, port_answer, port_state, sends, fault_in}
use Rattle.gate_law.specs.Outcome.{Outcome, client_up, port_up, by_app, by_fault, by_payload, by_event, told_outcome}
use Rattle.gate_law.specs.Outcome.{outcome, is_stepped, messages, bodies, addressee}
use Rattle.gate_law.specs.After.{links_closed, with_outcome, unless_closed, lists_after}
use Rattle.gate_law.specs.Due.{Gives, to_client_of, reports_of}
use Rattle.gate_law.specs.Promises.{ClosesPort, ByFault, Faults}
use Rattle.gate_law.proofs.Other.{no-client-lines, no-outcome}
use Rattle.gate_law.proofs.Parts.{called, alone, alone-keeps-calls, alone-keeps-links, own-calls, other-calls}
use Rattle.gate_law.proofs.Links.{EndsAll, IsLinked, outcome-keeps, event-linked, link-due, same-if, state-sent}

-- ---- a port that is faulted has no link

no-link : (link : Option ℕ) → false ≡ is_some link → link ≡ None
no-link None e = refl
no-link (Some n) e = absurd (cc)

faulted-has-none : (s : Settings) (x : Lists) (p : ℕ) (n : PortFault) → IsLinked s x p
    → port_state s p (x.port_calls p) ≡ Faulted n → x.port_link p ≡ None
faulted-has-none s x p n linked is = no-link (x.port_link p) (sym (ap is_open is) ∙ linked)

names-port : (s : Settings) (e : Event) (b : Batch) (n : PortFault) (p : ℕ) → b.fault ≡ Some n
    → (if is_for_port b then Some p else None) ≡ Some p
names-port s e b n p is = ap (λ (f : Option PortFault). if not
    ((length b.port_out == 0) && not (is_some f)) then Some p else None) is ∙ by_lines (length b.port_out == 0)
  where
    by_lines : (w : Bool) → (if not (w && false) then Some p else None) ≡ Some p
    by_lines true = refl
    by_lines false = refl

-- ---- an outcome that is a port's alone, and leaves it faulted

module _ (s : Settings) (p link at : ℕ) (packet : Packet) (b : Batch) (v : Lists) (g : Gives s (PortPacket p link at packet) b v) where
  alone-closes : (n : PortFault) (cs : List PortCall) (fault : Option PortFault) (turn : Option orders.OrderTurn)
      → outcome s (PortPacket p link at packet) b v ≡ alone p cs fault turn → b.fault ≡ Some n
      → port_state s p (called cs (v.port_calls p)) ≡ Faulted n
      → IsLinked s (lists_after s (PortPacket p link at packet) b v) p
      → ClosesPort s (PortPacket p link at packet) b v n p
  alone-closes n cs fault turn is at_fault faulted linked = record {
    port = g.port ∙ names-port s (PortPacket p link at packet) b n p at_fault;
    state = state;
    link = faulted-has-none s (lists_after s (PortPacket p link at packet) b v) p n linked state;
    reports = g.reports ∙ ap (λ (o : Outcome). reports_of s o v) is;
    client_out = client_out;
    clients = λ c. ap (λ (x : Lists). x.client_calls c) same
        ∙ ap (λ calls. calls c) (alone-keeps-calls p cs fault turn v);
    client_links = λ c. ap (λ (x : Lists). x.client_link c) same ∙ unclosed c
        ∙ ap (λ links. links c) (alone-keeps-links p cs fault turn v);
    ports = λ q other. ap (λ (x : Lists). x.port_calls q) same ∙ other-calls (alone p cs fault turn) b v q other;
    port_links = λ q other. ap (λ (x : Lists). x.port_link q) same
        ∙ link-due s (PortPacket p link at packet) b v (alone p cs fault turn) q g.port
        ∙ cond-false (p == q) _ _ (ne_eqb p q (λ e. eqb-false q p other (sym e)));
  }
    where
      same : lists_after s (PortPacket p link at packet) b v ≡ links_closed b (with_outcome (alone p cs fault turn) v)
      same = ap (λ (o : Outcome). links_closed b (with_outcome o v)) is

      state : port_state s p ((lists_after s (PortPacket p link at packet) b v).port_calls p) ≡ Faulted n
      state = ap (λ (x : Lists). port_state s p (x.port_calls p)) same
          ∙ ap (port_state s p) (own-calls (alone p cs fault turn) b v p (eq-eqb p p refl)) ∙ faulted

      client_out : b.client_out ≡ []
      client_out = g.client_out ∙ ap (λ (o : Outcome). to_client_of s o v) is ∙ no-client-lines s 0 (v.client_link 0)

      unclosed : (c : ℕ) → (links_closed b (with_outcome (alone p cs fault turn) v)).client_link c
          ≡ (with_outcome (alone p cs fault turn) v).client_link c
      unclosed c =
          ap (λ (lines : List LinkOut). if is_the_number c b.client then unless_closed lines
          ((with_outcome (alone p cs fault turn) v).client_link c) else
          (with_outcome (alone p cs fault turn) v).client_link c) client_out
          ∙ same-if (is_the_number c b.client) ((with_outcome (alone p cs fault turn) v).client_link c)

-- ---- which outcomes have a fault

fault-state : (x : PortState) (n : PortFault) → fault_in x ≡ Some n → x ≡ Faulted n
fault-state Down n e = absurd (cc)
fault-state LoggingIn n e = absurd (cc)
fault-state Up n e = absurd (cc)
fault-state Ended n e = absurd (cc)
fault-state (Faulted m) n e = ap Faulted (cc)

heard-state : (s : Settings) (p : ℕ) (before : List PortCall) (c : PortCall)
    → port_state s p (c ∷ before) ≡ (port_answer s p before c).after.state
unfolding port_state port_answer
heard-state s p before c = refl

failed-state : (s : Settings) (p : ℕ) (n : PortFault) (before : List PortCall)
    → port_state s p (Fail n ∷ before) ≡ Faulted n
unfolding port_state
failed-state s p n before = refl

-- ---- by event

faultless-either : (c : Bool) (x y : Outcome) → x.fault ≡ None → y.fault ≡ None → (if c then x else y).fault ≡ None
faultless-either true x y p q = p
faultless-either false x y p q = q

faultless-client-up : (client link at : ℕ) (current : Option ℕ) → (client_up client link at current).fault ≡ None
faultless-client-up client link at None = refl
faultless-client-up client link at (Some n) = faultless-either (n == link) _ _ refl refl

faultless-port-up : (p link at : ℕ) (current : Option ℕ) → (port_up p link at current).fault ≡ None
faultless-port-up p link at None = refl
faultless-port-up p link at (Some n) = faultless-either (n == link) _ _ refl refl

faultless-app : (s : Settings) (client at : ℕ) (frame : Message) (b : Batch) (v : Lists) (app : Option AppMsg)
    → (by_app s client at frame b v app).fault ≡ None
faultless-app s client at frame b v None = refl
faultless-app s client at frame b v (Some app) = refl

-- what a packet comes to where it does anything
pub packet-outcome : (s : Settings) (p link at : ℕ) (packet : Packet) (b : Batch) (v : Lists)
    (payload : Option (List ℕ)) → is_stepped s (PortPacket p link at packet) v ≡ true
    → (port_answer s p (v.port_calls p) (OnPacket packet at)).payload ≡ payload
    → outcome s (PortPacket p link at packet) b v
    ≡ by_payload p at packet b (port_answer s p (v.port_calls p) (OnPacket packet at)) payload
packet-outcome s p link at packet b v payload is has =
    cond-true (is_stepped s (PortPacket p link at packet) v) _ _ is
    ∙ ap (by_payload p at packet b (port_answer s p (v.port_calls p) (OnPacket packet at))) has

-- the turn of a payload
abbrev pub turn_of : ℕ → Batch → List ℕ → Option orders.OrderTurn
turn_of p b payload = Some (record {
  event = orders.Heard p (decoded payload);
  client = addressee b;
  bodies =
      bodies b;
  sends = [];
  fault = option_map fault_number b.fault;
})

pub told-outcome : (p at : ℕ) (packet : Packet) (b : Batch) (payload : List ℕ) (fault : Option PortFault)
    → b.fault ≡ fault
    → told_outcome p at packet b payload ≡ record (by_fault p at packet b fault) { turn = turn_of p b payload }
told-outcome p at packet b payload fault e =
    ap (λ (f : Option PortFault). record (by_fault p at packet b f) { turn = turn_of p b payload }) e

no-fault : {X : Type 0} (x : Option PortFault) (n : PortFault) → x ≡ None → x ≡ Some n → X
no-fault x n e is = absurd (cc)

module _ (ends : EndsAll) (s : Settings) (p link at : ℕ) (packet : Packet) (b : Batch) (v : Lists)
    (g : Gives s (PortPacket p link at packet) b v)
    (before : (q : ℕ) → IsLinked s v q) (n : PortFault) (at_fault : b.fault ≡ Some n) where
  linked-after : IsLinked s (lists_after s (PortPacket p link at packet) b v) p
  linked-after = event-linked s (PortPacket p link at packet) b v
      (outcome s (PortPacket p link at packet) b v) g.port_out g.port before p
      (outcome-keeps ends s (PortPacket p link at packet) b v)

  abbrev Closes : Type 0
  Closes = ClosesPort s (PortPacket p link at packet) b v n p

  -- the session's fault, and the order level's
  session-closes : outcome s (PortPacket p link at packet) b v
      ≡ by_payload p at packet b (port_answer s p (v.port_calls p) (OnPacket packet at)) None → Closes
  session-closes is =
      let in_state : fault_in (port_answer s p (v.port_calls p) (OnPacket packet at)).after.state ≡ Some n =
      sym (g.fault ∙ ap (λ (o : Outcome). o.fault) is) ∙ at_fault in
      alone-closes s p link at packet b v g n (OnPacket packet at ∷ sends at (messages b)) _ None is at_fault
      (state-sent s p at (messages b) (OnPacket packet at ∷ v.port_calls p)
      ∙ heard-state s p (v.port_calls p) (OnPacket packet at) ∙ fault-state _ n in_state) linked-after

  payload-closes : (payload : List ℕ) → outcome s (PortPacket p link at packet) b v ≡ told_outcome p at packet b payload
      → Closes
  payload-closes payload is =
      alone-closes s p link at packet b v g n (OnPacket packet at ∷ Fail n ∷ []) (Some n) (turn_of p b payload)
      (is ∙ told-outcome p at packet b payload (Some n) at_fault) at_fault
      (failed-state s p n (OnPacket packet at ∷ v.port_calls p)) linked-after

  packet-closes : Closes
  packet-closes = by_step (cases_Bool (is_stepped s (PortPacket p link at packet) v))
    where
      by_answer : is_stepped s (PortPacket p link at packet) v ≡ true → (payload : Option (List ℕ))
          → (port_answer s p (v.port_calls p) (OnPacket packet at)).payload ≡ payload → Closes
      by_answer is None has = session-closes (packet-outcome s p link at packet b v None is has)
      by_answer is (Some payload) has = payload-closes payload
          (packet-outcome s p link at packet b v (Some payload) is has)

      by_step : (is_stepped s (PortPacket p link at packet) v ≡ true) ⊎
          (is_stepped s (PortPacket p link at packet) v ≡ false) → Closes
      by_step (inl is) = by_answer is (port_answer s p (v.port_calls p) (OnPacket packet at)).payload refl
      by_step (inr none) = no-fault b.fault n (g.fault
          ∙ ap (λ (o : Outcome). o.fault) (no-outcome s (PortPacket p link at packet) b v none)) at_fault

-- of any event but a packet
faultless : (s : Settings) (e : Event) (b : Batch) (v : Lists) (n : PortFault) → Gives s e b v
    → (by_event s e b v).fault ≡ None → b.fault ≡ Some n → (p : ℕ) × ClosesPort s e b v n p
faultless s e b v n g none is = no-fault b.fault n (g.fault ∙ faultless-either (is_stepped s e v) _ _ none refl) is

event-closes : EndsAll → (s : Settings) (e : Event) (b : Batch) (v : Lists) (n : PortFault) → Gives s e b v
    → ((q : ℕ) → IsLinked s v q) → b.fault ≡ Some n → (p : ℕ) × ClosesPort s e b v n p
event-closes ends s (ClientUp client link at) b v n g before is =
    faultless s (ClientUp client link at) b v n g (faultless-client-up client link at (v.client_link client)) is
event-closes ends s (ClientMessage client link at frame) b v n g before is =
    faultless s (ClientMessage client link at frame) b v n g
    (faultless-app s client at frame b v (client_answer s client (v.client_calls client) (at, OnMessage frame)).app)
    is
event-closes ends s (ClientGone client link at) b v n g before is =
    faultless s (ClientGone client link at) b v n g refl is
event-closes ends s (ClientTick client at) b v n g before is = faultless s (ClientTick client at) b v n g refl is
event-closes ends s (PortUp p link at) b v n g before is =
    faultless s (PortUp p link at) b v n g (faultless-port-up p link at (v.port_link p)) is
event-closes ends s (PortPacket p link at packet) b v n g before is =
    (p, packet-closes ends s p link at packet b v g before n is)
event-closes ends s (PortGone p link at) b v n g before is = faultless s (PortGone p link at) b v n g refl is
event-closes ends s (PortTick p at) b v n g before is = faultless s (PortTick p at) b v n g refl is

pub faults-close : EndsAll → (s : Settings) (e : Event) (b : Batch) (v : Lists) → Gives s e b v
    → ((q : ℕ) → IsLinked s v q) → Faults s e b v
faults-close ends s e b v g before = by_number b.fault refl
  where
    by_number : (f : Option PortFault) → b.fault ≡ f → ByFault s e b v f
    by_number None is = tt
    by_number (Some n) is = event-closes ends s e b v n g before is
