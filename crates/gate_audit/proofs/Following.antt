-- A port's session that is called once more follows the port's session of a run, and delivers the same messages.
use Rattle.std.proofs.Common.{◌≡◌, ◌==◌, ℕ, Bool, true, false, List, [], ◌∷◌, Option, Some, None, refl, ap, sym, subst}
use Rattle.std.proofs.Common.{◌∙◌, is_some, eq-eqb, eqb-true, inl, inr}
use Rattle.std.proofs.lemmas.Bool.{cond-true, cond-false, cases_Bool}
use Rattle.std.specs.Prelude.{if◌then◌else◌, ◌&&◌, ◌++◌, ◌⊎◌, Result, Ok, Err, option_map, option_to_list}
use Rattle.std.specs.List.{list_any}
use Rattle.gate_core.specs.fix_types.declared.application.AppMsg.{AppMsg}
use Rattle.soup_packets.specs.declared.packet.Packet.{Packet}
use Rattle.gate_core.specs.soup_session.declared.port_fault.PortFault.{PortFault}
use Rattle.gate_core.specs.soup_session.Faults.{fault_number}
use Rattle.gate_core.specs.soup_session.declared.port_state.PortState.{PortState}
use Rattle.gate_core.specs.soup_session.declared.port_state.PortState.TheVariants.{Down, LoggingIn, Up, Ended, Faulted}
use Rattle.gate_core.specs.soup_session.States.{is_down, is_open}
use Rattle.gate_core.specs.soup_session.Table as port
use Rattle.gate_core.specs.soup_session.Table.{PortAnswer, PortCall, PortStanding, standing}
use Rattle.gate_core.specs.session_law.Runs.{Timed, OnMessage}
use Rattle.order_accounts.specs.ouch_codec.declared.outbound.Outbound.{Outbound}
use Rattle.order_accounts.specs.ouch_codec.declared.refusal.DecodeRefusal.{DecodeRefusal}
use Rattle.order_accounts.specs.ouch_codec.Values.{decoded}
use Rattle.order_law.specs.History as orders
use Rattle.order_law.specs.History.{handled}
use Rattle.gate_law.specs.fix_fields.Field.{Message}
use Rattle.gate_law.specs.Settings.{Settings, has_port, port_terms}
use Rattle.gate_law.specs.Events.{Event, ClientUp, ClientMessage, ClientGone, ClientTick, PortUp, PortPacket, PortGone}
use Rattle.gate_law.specs.Events.{PortTick, Batch, History, is_the_number}
use Rattle.gate_law.specs.Lists.{Lists, nothing_yet, turned}
use Rattle.gate_law.specs.Sessions.{client_answer, port_answer, port_state, sends}
use Rattle.gate_law.specs.Outcome.{LinkMove, Stays, Comes, Goes, Refused, Outcome, nothing, of_client, of_port}
use Rattle.gate_law.specs.Outcome.{client_up, port_up, by_app, by_fault, by_payload, outcome, is_stepped, messages}
use Rattle.gate_law.specs.Outcome.{bodies, addressee}
use Rattle.gate_law.specs.After.{lists_after, links_closed, is_close, is_within_day, lists, order_turns, port_moved}
use Rattle.gate_law.specs.After.{unless_closed, with_outcome}
use Rattle.gate_law.specs.Holds.{IsRun}
use Rattle.gate_law.proofs.Links.{IsLinked, links-current, EndsAll}
use Rattle.gate_law.proofs.Parts.{called, link-after, moved-other, other-calls, own-calls}
use Rattle.gate_law.proofs.Telling.{turns-after}
use Rattle.gate_audit.specs.Again as read
use Rattle.gate_audit.specs.Again.{Again, called_again, and_handled, unless_fault, unless_lost}
use Rattle.gate_audit.proofs.Alike.{Fades, IsAlike, SameNumbers, fails-numbers, goes-numbers, goes-state, packet-after}
use Rattle.gate_audit.proofs.Alike.{packet-payload, same-numbers, stays, ticks-fade, up-numbers, up-state}

-- ---- numbers

onward : (a b c : PortStanding) → SameNumbers a b → SameNumbers b c → SameNumbers a c
onward a b c p q = record {
  session = p.session ∙ q.session;
  arrived = p.arrived ∙ q.arrived;
  number = p.number
      ∙ q.number;
}

back : (a b : PortStanding) → SameNumbers a b → SameNumbers b a
back a b p = record { session = sym p.session; arrived = sym p.arrived; number = sym p.number }

sends-stay : (terms : port.LoginTerms) (at : ℕ) (ms : List (List ℕ)) (calls : List PortCall)
    → IsAlike (standing terms (called (sends at ms) calls)) (standing terms calls)
sends-stay terms at [] calls = record { state = refl; numbers = same-numbers (standing terms calls) }
sends-stay terms at (m ∷ ms) calls =
    let rest = sends-stay terms at ms (port.Send m at ∷ calls) in
    record {
      state = rest.state;
      numbers = record
          { session = rest.numbers.session; arrived = rest.numbers.arrived; number = rest.numbers.number };
    }

-- ---- as a history has it, and once more

-- the session's own state while it has a link; down where it is down
record Follows (s x : PortStanding) : Type 0 where
  numbers : SameNumbers s x
  on : is_open s.state ≡ true → s.state ≡ x.state
  down : s.state ≡ Down → x.state ≡ Down

-- before links that are lost are gone
record Moves (link : Option ℕ) (s x : PortStanding) : Type 0 where
  numbers : SameNumbers s x
  on : is_open s.state ≡ true → s.state ≡ x.state
  down : s.state ≡ Down → (x.state ≡ Down) ⊎ ((is_open x.state ≡ true) × (is_some link ≡ true))

moves-so : (link : Option ℕ) (s x : PortStanding) → Follows s x → Moves link s x
moves-so link s x f = record { numbers = f.numbers; on = f.on; down = λ e. inl (f.down e) }

open-not-down : (a b : PortState) → is_open a ≡ true → a ≡ Down → b ≡ Down
open-not-down a b up e = (let x : true ≡ false = sym up ∙ ap is_open e in cc)

-- what fades moves
fades-so : (link : Option ℕ) (s s' x : PortStanding) → is_open s.state ≡ is_some link → Follows s x → Fades s s'
    → Moves link s' x
fades-so link s s' x linked f fades = by_state fades.state
  where
    numbers : SameNumbers s' x
    numbers = onward s' s x (back s s' fades.numbers) f.numbers

    by_state : (s'.state ≡ s.state) ⊎ ((is_open s.state ≡ true) × (s'.state ≡ Down)) → Moves link s' x
    by_state (inl same) = record {
      numbers = numbers;
      on = λ up. same ∙ f.on (ap is_open (sym same) ∙ up);
      down =
          λ e. inl (f.down (sym same ∙ e));
    }
    by_state (inr gone) = record {
      numbers = numbers;
      on = λ up. (let x : true ≡ false = sym up ∙ ap is_open gone.1 in cc);
      down = λ e. inr (ap is_open (sym (f.on gone.0)) ∙ gone.0, sym linked ∙ gone.0);
    }

record Sim (s : Settings) (p : ℕ) (v : Lists) (r : Again) : Type 0 where
  link : v.port_link p ≡ r.link
  handled : handled p v.turns ≡ r.handled
  follows : Follows (standing (port_terms s p) (v.port_calls p)) (standing (port_terms s p) r.calls)

-- after an outcome, before its batch closes anything
record Moved (s : Settings) (p : ℕ) (v : Lists) (o : Outcome) (r : Again) : Type 0 where
  link : (port_moved o.port o.port_link v).port_link p ≡ r.link
  handled : handled p (turned o.turn v).turns ≡ r.handled
  moves : (calls : List PortCall) → calls ≡
      (if p == o.port then called o.port_calls (v.port_calls p) else v.port_calls p)
      → Moves r.link (standing (port_terms s p) calls) (standing (port_terms s p) r.calls)

-- ---- what the batch closes

calls-after : (o : Outcome) (b : Batch) (v : Lists) (p : ℕ)
    → (links_closed b (with_outcome o v)).port_calls p
    ≡ (if p == o.port then called o.port_calls (v.port_calls p) else v.port_calls p)
calls-after o b v p = by_port (cases_Bool (p == o.port))
  where
    by_port : ((p == o.port) ≡ true) ⊎ ((p == o.port) ≡ false)
        → (links_closed b (with_outcome o v)).port_calls p
        ≡ (if p == o.port then called o.port_calls (v.port_calls p) else v.port_calls p)
    by_port (inl same) = own-calls o b v p same ∙ sym (cond-true (p == o.port) _ _ same)
    by_port (inr other) = other-calls o b v p other ∙ sym (cond-false (p == o.port) _ _ other)

-- a link that is lost, or not
left-by : (w c : Bool) (link : Option ℕ) → (if w then (if c then None else link) else link)
    ≡ (if w && c then None else link)
left-by true c link = refl
left-by false c link = refl

settled : (s : Settings) (p : ℕ) (v : Lists) (o : Outcome) (b : Batch) (r : Again)
    → IsLinked s (links_closed b (with_outcome o v)) p → Moved s p v o r
    → Sim s p (links_closed b (with_outcome o v)) (unless_lost p b r)
unfolding port_state
settled s p v o b r linked m = by_lost (is_the_number p b.port && list_any (is_close r.link) b.port_out) refl
  where
    now : Lists
    now = links_closed b (with_outcome o v)

    terms : port.LoginTerms
    terms = port_terms s p

    link-is : now.port_link p ≡ (if is_the_number p b.port
        && list_any (is_close r.link) b.port_out then None else r.link)
    link-is =
        link-after o b v p
        ∙ (ap (λ (l : Option ℕ). if is_the_number p b.port then unless_closed b.port_out l else l) m.link
        ∙ left-by (is_the_number p b.port) (list_any (is_close r.link) b.port_out) r.link)

    handled-is : handled p now.turns ≡ r.handled
    handled-is = ap (handled p) (turns-after o b v) ∙ m.handled

    moves : Moves r.link (standing terms (now.port_calls p)) (standing terms r.calls)
    moves = m.moves (now.port_calls p) (calls-after o b v p)

    shut-down : (x : PortState) → (x ≡ Down) ⊎ ((is_open x ≡ true) × (is_some r.link ≡ true)) → (w : Bool)
        → is_open x ≡ w → (if w then Down else x) ≡ Down
    shut-down x is true e = refl
    shut-down x (inl is) false e = is
    shut-down x (inr is) false e = (let y : true ≡ false = sym is.0 ∙ e in cc)

    by_lost : (w : Bool) → (is_the_number p b.port && list_any (is_close r.link) b.port_out) ≡ w
        → Sim s p now (if w then read.called_gone r else r)
    by_lost true e =
        let none : now.port_link p ≡ None = link-is ∙ ap (λ (w : Bool). if w then None else r.link) e in
        let shut : is_open (standing terms (now.port_calls p)).state ≡ false = linked ∙ ap is_some none in
        record {
          link = none;
          handled = handled-is;
          follows = record {
            numbers = onward (standing terms (now.port_calls p)) (standing terms r.calls)
                (standing terms (port.OnGone ∷ r.calls)) moves.numbers (goes-numbers terms r.calls);
            on = λ up. (let y : true ≡ false = sym up ∙ shut in cc);
            down = λ d. goes-state terms r.calls (is_open (standing terms r.calls).state) refl
                ∙ shut-down (standing terms r.calls).state (moves.down d) (is_open (standing terms r.calls).state) refl;
          };
        }
    by_lost false e =
        let same : now.port_link p ≡ r.link = link-is ∙ ap (λ (w : Bool). if w then None else r.link) e in
        record {
          link = same;
          handled = handled-is;
          follows = record { numbers = moves.numbers; on = moves.on; down = λ d. stays_down d (moves.down d) };
        }
      where
        stays_down : (standing terms (now.port_calls p)).state ≡ Down
            → ((standing terms r.calls).state ≡ Down) ⊎
            ((is_open (standing terms r.calls).state ≡ true) × (is_some r.link ≡ true))
            → (standing terms r.calls).state ≡ Down
        stays_down d (inl is) = is
        stays_down d (inr is) =
            let y : true ≡ false = sym is.1 ∙ (ap is_some
            (sym (link-is ∙ ap (λ (w : Bool). if w then None else r.link) e)) ∙ (sym linked ∙ ap is_open d)) in cc

-- ---- an outcome

linked-is : (s : Settings) (v : Lists) (p : ℕ) → IsLinked s v p
    → is_open (standing (port_terms s p) (v.port_calls p)).state ≡ is_some (v.port_link p)
unfolding port_state
linked-is s v p linked = linked

down-is : (x : PortState) → is_down x ≡ true → x ≡ Down
down-is Down e = refl
down-is LoggingIn e = absurd (cc)
down-is Up e = absurd (cc)
down-is Ended e = absurd (cc)
down-is (Faulted n) e = absurd (cc)

some-of : (link : ℕ) (x : Option ℕ) → is_the_number link x ≡ true → is_some x ≡ true
some-of link None e = absurd (cc)
some-of link (Some m) e = refl

alike-moves : (link : Option ℕ) (s x : PortStanding) → IsAlike s x → Moves link s x
alike-moves link s x like = record {
  numbers = like.numbers;
  on = λ up. like.state;
  down =
      λ e. inl (sym like.state ∙ e);
}

alike-back : (a b c : PortStanding) → IsAlike a b → IsAlike b c → IsAlike a c
alike-back a b c p q = record { state = p.state ∙ q.state; numbers = onward a b c p.numbers q.numbers }

sends-fade : (terms : port.LoginTerms) (at : ℕ) (ms : List (List ℕ)) (calls : List PortCall)
    → Fades (standing terms calls) (standing terms (called (sends at ms) calls))
sends-fade terms at ms calls =
    let same = sends-stay terms at ms calls in
    record {
      numbers = back (standing terms (called (sends at ms) calls)) (standing terms calls) same.numbers;
      state =
          inl same.state;
    }

fades-if : (terms : port.LoginTerms) (w : Bool) (cs calls : List PortCall)
    → Fades (standing terms calls) (standing terms (called cs calls))
    → Fades (standing terms calls) (standing terms (if w then called cs calls else calls))
fades-if terms true cs calls fades = fades
fades-if terms false cs calls fades = stays (standing terms calls)

moved-if : (s : Settings) (p : ℕ) (v : Lists) (r : Again) (w : Bool) (x y : Outcome) → Moved s p v x r → Moved s p v y r
    → Moved s p v (if w then x else y) r
moved-if s p v r true x y m n = m
moved-if s p v r false x y m n = n

-- the turn of a payload
abbrev heard_turn : ℕ → Batch → Result Outbound DecodeRefusal → Option PortFault → orders.OrderTurn
heard_turn p b heard fault = record {
  event = orders.Heard p heard;
  client = addressee b;
  bodies = bodies b;
  sends =
      [];
  fault = option_map fault_number fault;
}

handled-more : (p : ℕ) (b : Batch) (heard : Result Outbound DecodeRefusal) (fault : Option PortFault)
    (before : orders.OrderHistory) (ms : List Outbound)
    → handled p before ≡ ms → handled p (heard_turn p b heard fault ∷ before)
    ≡ option_to_list (unless_fault heard fault) ++ ms
handled-more p b (Err refusal) fault before ms same = same
handled-more p b (Ok m) None before ms same = cond-true (p == p && true) _ _ (rw (eq-eqb p p refl) refl)
    ∙ ap (λ (xs : List Outbound). m ∷ xs) same
handled-more p b (Ok m) (Some n) before ms same = cond-false (p == p && false) _ _ (rw (eq-eqb p p refl) refl) ∙ same

-- of another port
handled-other : (p q : ℕ) → (q == p) ≡ false
    → (b : Batch) (heard : Result Outbound DecodeRefusal) (fault : Option PortFault) (before : orders.OrderHistory)
    → handled p (heard_turn q b heard fault ∷ before) ≡ handled p before
handled-other p q apart b (Err refusal) fault before = refl
handled-other p q apart b (Ok m) fault before = rw apart refl

module _ (s : Settings) (p : ℕ) (v : Lists) (r : Again) (b : Batch) (linked : IsLinked s v p) (sim : Sim s p v r) where
  abbrev terms : port.LoginTerms
  terms = port_terms s p

  abbrev S : PortStanding
  S = standing terms (v.port_calls p)

  is_linked : is_open S.state ≡ is_some r.link
  is_linked = linked-is s v p linked ∙ ap is_some sim.link

  -- nothing comes of it for this port but that its session may fade
  quiet-moved : (o : Outcome) → (port_moved o.port o.port_link v).port_link p ≡ v.port_link p
      → handled p (turned o.turn v).turns ≡ handled p v.turns
      → Fades S (standing terms (called o.port_calls (v.port_calls p))) → Moved s p v o r
  quiet-moved o moved same fades = record {
    link = moved ∙ sim.link;
    handled = same ∙ sim.handled;
    moves = λ calls is.
        subst (λ (cs : List PortCall). Moves r.link (standing terms cs) (standing terms r.calls)) (sym is)
        (fades-so r.link S (standing terms (if p == o.port then called o.port_calls
        (v.port_calls p) else v.port_calls p)) (standing terms r.calls) is_linked sim.follows
        (fades-if terms (p == o.port) o.port_calls (v.port_calls p) fades));
  }

  nothing-moved : Moved s p v nothing r
  nothing-moved = quiet-moved nothing refl refl (stays S)

  client-moved : (client : ℕ) (move : LinkMove) (made : List Timed) → Moved s p v (of_client client move made) r
  client-moved client move made = quiet-moved (of_client client move made) refl refl (stays S)

  client-up-moved : (client link at : ℕ) (current : Option ℕ) → Moved s p v (client_up client link at current) r
  client-up-moved client link at None = client-moved client (Comes link) _
  client-up-moved client link at (Some n) =
      moved-if s p v r (n == link) _ _ nothing-moved (client-moved client (Refused link) [])

  app-moved : (client at : ℕ) (frame : Message) (app : Option AppMsg) → Moved s p v (by_app s client at frame b v app) r
  app-moved client at frame None = client-moved client Stays _
  app-moved client at frame (Some app) = quiet-moved (by_app s client at frame b v (Some app)) refl refl
      (sends-fade terms at (messages b) (v.port_calls p))

  -- another port's
  other-moved : (o : Outcome) → (p == o.port) ≡ false → handled p (turned o.turn v).turns ≡ handled p v.turns
      → Moved s p v o r
  other-moved o other same = record {
    link = moved-other o.port p o.port_link v other ∙ sim.link;
    handled = same ∙ sim.handled;
    moves = λ calls is.
        subst (λ (cs : List PortCall). Moves r.link (standing terms cs) (standing terms r.calls))
        (sym (is ∙ cond-false (p == o.port) _ _ other))
        (moves-so r.link S (standing terms r.calls) sim.follows);
  }

  other-up : (q link at : ℕ) → (p == q) ≡ false → (current : Option ℕ) → Moved s p v (port_up q link at current) r
  other-up q link at other None = other-moved (port_up q link at None) other refl
  other-up q link at other (Some n) = moved-if s p v r (n == link) _ _ nothing-moved
      (other-moved (of_port q (Refused link) []) other refl)

  other-payload : (q at : ℕ) (packet : Packet) (a : PortAnswer) → (p == q) ≡ false → (q == p) ≡ false
      → (payload : Option (List ℕ)) → Moved s p v (by_payload q at packet b a payload) r
  other-payload q at packet a other turned' None = other-moved (by_payload q at packet b a None) other refl
  other-payload q at packet a other turned' (Some m) = by_fault_of b.fault
    where
      same : handled p (heard_turn q b (decoded m) b.fault ∷ v.turns) ≡ handled p v.turns
      same = handled-other p q turned' b (decoded m) b.fault v.turns

      by_fault_of : (f : Option PortFault) → Moved s p v
          (record (by_fault q at packet b f) { turn = Some (heard_turn q b (decoded m) b.fault) }) r
      by_fault_of None = other-moved _ other same
      by_fault_of (Some n) = other-moved _ other same

  -- its own link comes
  up-moves : (link at : ℕ) → r.link ≡ None → Moves (Some link) (standing terms (port.OnUp at ∷ v.port_calls p))
      (standing terms (port.OnUp 0 ∷ r.calls))
  up-moves link at none = record {
    numbers = up-numbers terms (v.port_calls p) r.calls at sim.follows.numbers;
    on = λ up. by_down (is_down S.state) refl up;
    down = λ e. absurd (never (is_down S.state) refl e);
  }
    where
      shut : is_open S.state ≡ false
      shut = is_linked ∙ ap is_some none

      by_down : (w : Bool) → is_down S.state ≡ w → is_open (standing terms (port.OnUp at ∷ v.port_calls p)).state ≡ true
          → (standing terms (port.OnUp at ∷ v.port_calls p)).state ≡ (standing terms (port.OnUp 0 ∷ r.calls)).state
      by_down true e up = up-state terms (v.port_calls p) at true e
          ∙ sym (up-state terms r.calls 0 true (ap is_down (sim.follows.down (down-is S.state e))))
      by_down false e up = (let y : true ≡ false = sym up
          ∙ (ap is_open (up-state terms (v.port_calls p) at false e) ∙ shut) in cc)

      never : (w : Bool) → is_down S.state ≡ w → (standing terms (port.OnUp at ∷ v.port_calls p)).state ≡ Down → ⊥
      never true e d = (let y : false ≡ true = ap is_down (sym (up-state terms (v.port_calls p) at true e) ∙ d) in cc)
      never false e d = (let y : false ≡ true = sym e
          ∙ ap is_down (sym (up-state terms (v.port_calls p) at false e) ∙ d) in cc)

  own-up : (link at : ℕ) (current : Option ℕ) → v.port_link p ≡ current
      → Moved s p v (port_up p link at current) (read.called_up link current r)
  own-up link at None none = record {
    link = cond-true (p == p) _ _ (eq-eqb p p refl);
    handled = sim.handled;
    moves = λ calls is.
        subst (λ (cs : List PortCall). Moves (Some link) (standing terms cs) (standing terms (port.OnUp 0 ∷ r.calls)))
        (sym (is ∙ cond-true (p == p) _ _ (eq-eqb p p refl)))
        (up-moves link at (sym sim.link ∙ none));
  }
  own-up link at (Some n) some = moved-if s p v r (n == link) _ _ nothing-moved
      (quiet-moved (of_port p (Refused link) []) refl refl (stays S))

  -- its own link is gone
  own-gone : (link : ℕ) → is_the_number link r.link ≡ true
      → Moved s p v (of_port p Goes (port.OnGone ∷ [])) (read.called_gone r)
  own-gone link current = record {
    link = cond-true (p == p) _ _ (eq-eqb p p refl);
    handled = sim.handled;
    moves = λ calls is.
        subst (λ (cs : List PortCall). Moves None (standing terms cs) (standing terms (port.OnGone ∷ r.calls)))
        (sym (is ∙ cond-true (p == p) _ _ (eq-eqb p p refl))) gone;
  }
    where
      up : is_open S.state ≡ true
      up = is_linked ∙ some-of link r.link current

      is_down' : (standing terms (port.OnGone ∷ v.port_calls p)).state ≡ Down
      is_down' = goes-state terms (v.port_calls p) true up

      gone : Moves None (standing terms (port.OnGone ∷ v.port_calls p)) (standing terms (port.OnGone ∷ r.calls))
      gone = record {
        numbers = onward (standing terms (port.OnGone ∷ v.port_calls p)) S (standing terms (port.OnGone ∷ r.calls))
            (back S (standing terms (port.OnGone ∷ v.port_calls p)) (goes-numbers terms (v.port_calls p)))
            (onward S (standing terms r.calls) (standing terms (port.OnGone ∷ r.calls)) sim.follows.numbers
            (goes-numbers terms r.calls));
        on = λ o. (let y : true ≡ false = sym o ∙ ap is_open is_down' in cc);
        down = λ e. inl (goes-state terms r.calls true (ap is_open (sym (sim.follows.on up)) ∙ up));
      }

  -- a packet on its own link
  module _ (link at : ℕ) (packet : Packet) (current : is_the_number link r.link ≡ true) where
    alike : IsAlike S (standing terms r.calls)
    alike =
        let up : is_open S.state ≡ true = is_linked ∙ some-of link r.link current in
        record { state = sim.follows.on up; numbers = sim.follows.numbers }

    alike-now : IsAlike (standing terms (port.OnPacket packet at ∷ v.port_calls p))
        (standing terms (port.OnPacket packet 0 ∷ r.calls))
    alike-now = packet-after terms (v.port_calls p) r.calls packet at alike

    payload-is : (port.answer terms (v.port_calls p) (port.OnPacket packet at)).payload
        ≡ (port.answer terms r.calls (port.OnPacket packet 0)).payload
    payload-is = packet-payload terms (v.port_calls p) r.calls packet at alike

    abbrev heard : Again
    heard = read.called_packet terms packet b r

    handled-so : (x : Option (List ℕ)) → (port.answer terms (v.port_calls p) (port.OnPacket packet at)).payload ≡ x
        → (f : Option PortFault) → b.fault ≡ f → heard.handled ≡ and_handled x f r.handled
    handled-so x is f is_f = ap (λ (y : Option (List ℕ)). and_handled y b.fault r.handled) (sym payload-is ∙ is)
        ∙ ap (λ (g : Option PortFault). and_handled x g r.handled) is_f

    own-told : (m : List ℕ) → (port.answer terms (v.port_calls p) (port.OnPacket packet at)).payload ≡ Some m
        → (f : Option PortFault) → b.fault ≡ f
        → Moved s p v (record (by_fault p at packet b f) { turn = Some (heard_turn p b (decoded m) f) }) heard
    own-told m is None none = record {
      link = sim.link;
      handled = handled-more p b (decoded m) None v.turns r.handled sim.handled
          ∙ sym (handled-so (Some m) is None none);
      moves = λ calls is_calls.
          subst (λ (cs : List PortCall). Moves r.link (standing terms cs) (standing terms heard.calls))
          (sym (is_calls ∙ cond-true (p == p) _ _ (eq-eqb p p refl)))
          (alike-moves r.link _ _ alike-now);
    }
    own-told m is (Some n) some = record {
      link = sim.link;
      handled = handled-more p b (decoded m) (Some n) v.turns r.handled sim.handled
          ∙ sym (handled-so (Some m) is (Some n) some);
      moves = λ calls is_calls.
          subst (λ (cs : List PortCall). Moves r.link (standing terms cs) (standing terms heard.calls))
          (sym (is_calls ∙ cond-true (p == p) _ _ (eq-eqb p p refl)))
          (record {
            numbers = onward _ _ _ (back _ _ (fails-numbers terms (port.OnPacket packet at ∷ v.port_calls p) n))
                alike-now.numbers;
            on = λ o. absurd (cc);
            down = λ e. absurd (cc);
          });
    }

    own-payload : (a : PortAnswer) (x : Option (List ℕ))
        → (port.answer terms (v.port_calls p) (port.OnPacket packet at)).payload ≡ x
        → Moved s p v (by_payload p at packet b a x) heard
    own-payload a None is = record {
      link = sim.link;
      handled = sim.handled ∙ sym (handled-so None is b.fault refl);
      moves = λ calls is_calls.
          subst (λ (cs : List PortCall). Moves r.link (standing terms cs) (standing terms heard.calls))
          (sym (is_calls ∙ cond-true (p == p) _ _ (eq-eqb p p refl)))
          (alike-moves r.link _ _ (alike-back _ _ _
          (sends-stay terms at (messages b) (port.OnPacket packet at ∷ v.port_calls p)) alike-now));
    }
    own-payload a (Some m) is = own-told m is b.fault refl

  -- ---- every event

  for-port : (q : ℕ) (e : ℕ → Event) → Moved s p v (outcome s (e p) b v) (read.called_by_event terms p (e p) b r)
      → ((p == q) ≡ false → (q == p) ≡ false → Moved s p v (outcome s (e q) b v)
      (read.called_by_event terms p (e q) b r))
      → Moved s p v (outcome s (e q) b v) (read.called_by_event terms p (e q) b r)
  for-port q e own other = by_port (cases_Bool (q == p))
    where
      turned_round : (q == p) ≡ false → (w : Bool) → (p == q) ≡ w → (p == q) ≡ false
      turned_round apart true same = (let y : true ≡ false = sym (eq-eqb q p (sym (eqb-true p q same))) ∙ apart in cc)
      turned_round apart false same = same

      by_port : ((q == p) ≡ true) ⊎ ((q == p) ≡ false)
          → Moved s p v (outcome s (e q) b v) (read.called_by_event terms p (e q) b r)
      by_port (inl same) = subst (λ (n : ℕ). Moved s p v (outcome s (e n) b v) (read.called_by_event terms p (e n) b r))
          (sym (eqb-true q p same)) own
      by_port (inr apart) = other (turned_round apart (p == q) refl) apart

  up-event : has_port s p ≡ true → (link at : ℕ)
      → Moved s p v (outcome s (PortUp p link at) b v) (read.called_by_event terms p (PortUp p link at) b r)
  up-event has link at =
      rw (has, eq-eqb p p refl) (subst (λ (l : Option ℕ). Moved s p v (port_up p link at (v.port_link p))
      (read.called_up link l r)) sim.link (own-up link at (v.port_link p) refl))

  gone-event : has_port s p ≡ true → (link at : ℕ) (w : Bool) → is_the_number link r.link ≡ w
      → Moved s p v (outcome s (PortGone p link at) b v) (read.called_by_event terms p (PortGone p link at) b r)
  gone-event has link at true current = rw (has, eq-eqb p p refl, sim.link, current) (own-gone link current)
  gone-event has link at false old = rw (has, eq-eqb p p refl, sim.link, old) nothing-moved

  packet-event : has_port s p ≡ true → (link at : ℕ) (packet : Packet) (w : Bool) → is_the_number link r.link ≡ w
      → Moved s p v (outcome s (PortPacket p link at packet) b v)
      (read.called_by_event terms p (PortPacket p link at packet) b r)
  unfolding port_answer
  packet-event has link at packet true current =
      rw (has, eq-eqb p p refl, sim.link, current)
      (own-payload link at packet current (port.answer terms (v.port_calls p) (port.OnPacket packet at))
      (port.answer terms (v.port_calls p) (port.OnPacket packet at)).payload refl)
  packet-event has link at packet false old = rw (has, eq-eqb p p refl, sim.link, old) nothing-moved

  event-moved : has_port s p ≡ true → (e : Event) → Moved s p v (outcome s e b v) (read.called_by_event terms p e b r)
  event-moved has (ClientUp client link at) =
      moved-if s p v r (is_stepped s (ClientUp client link at) v) _ _
      (client-up-moved client link at (v.client_link client)) nothing-moved
  event-moved has (ClientMessage client link at frame) =
      moved-if s p v r (is_stepped s (ClientMessage client link at frame) v) _ _
      (app-moved client at frame (client_answer s client (v.client_calls client) (at, OnMessage frame)).app)
      nothing-moved
  event-moved has (ClientGone client link at) =
      moved-if s p v r (is_stepped s (ClientGone client link at) v) _ _ (client-moved client Goes _) nothing-moved
  event-moved has (ClientTick client at) = moved-if s p v r (is_stepped s (ClientTick client at) v) _ _
      (client-moved client Stays _) nothing-moved
  event-moved has (PortUp q link at) = for-port q (λ n. PortUp n link at) (up-event has link at)
      (λ other apart. rw apart (moved-if s p v r (is_stepped s (PortUp q link at) v) _ _
      (other-up q link at other (v.port_link q)) nothing-moved))
  event-moved has (PortPacket q link at packet) =
      for-port q (λ n. PortPacket n link at packet) (packet-event has link at packet (is_the_number link r.link) refl)
      (λ other apart. rw apart (moved-if s p v r (is_stepped s (PortPacket q link at packet) v) _ _
      (other-payload q at packet (port_answer s q (v.port_calls q) (port.OnPacket packet at)) other apart
      (port_answer s q (v.port_calls q) (port.OnPacket packet at)).payload) nothing-moved))
  event-moved has (PortGone q link at) = for-port q (λ n. PortGone n link at)
      (gone-event has link at (is_the_number link r.link) refl)
      (λ other apart. rw apart (moved-if s p v r (is_stepped s (PortGone q link at) v) _ _
      (other-moved (of_port q Goes (port.OnGone ∷ [])) other refl) nothing-moved))
  event-moved has (PortTick q at) = for-port q (λ n. PortTick n at)
      (moved-if s p v r (is_stepped s (PortTick p at) v) _ _
      (quiet-moved (of_port p Stays (port.OnTick at ∷ [])) refl refl (ticks-fade terms (v.port_calls p) at))
      nothing-moved)
      (λ other apart. moved-if s p v r (is_stepped s (PortTick q at) v) _ _
      (other-moved (of_port q Stays (port.OnTick at ∷ [])) other refl) nothing-moved)

-- ---- a history

first-sim : (s : Settings) (p : ℕ) → Sim s p nothing_yet read.called_at_first
first-sim s p = record {
  link = refl;
  handled = refl;
  follows =
      record { numbers = same-numbers (standing (port_terms s p) []); on = λ up. refl; down = λ e. e };
}

run-sim : EndsAll → (s : Settings) (p : ℕ) → has_port s p ≡ true → (h : History) → IsRun s h
    → Sim s p (lists s h) (called_again (port_terms s p) p h)
run-sim ends s p has [] run = first-sim s p
run-sim ends s p has (t ∷ before) run =
    by_limit (is_within_day before) (links-current ends s before run.1 p) (run-sim ends s p has before run.1) refl
  where
    v : Lists
    v = lists s before

    r : Again
    r = called_again (port_terms s p) p before

    by_limit : (w : Bool) → IsLinked s v p → Sim s p v r → is_within_day before ≡ w
        → Sim s p (if w then lists_after s t.event t.batch v else v)
        (if w then unless_lost p t.batch (read.called_by_event (port_terms s p) p t.event t.batch r) else r)
    by_limit true linked sim is =
        let now : IsLinked s (lists_after s t.event t.batch v) p =
        subst (λ (w : Bool). IsLinked s (if w then lists_after s t.event t.batch v else v) p) is
        (links-current ends s (t ∷ before) run p) in
        settled s p v (outcome s t.event t.batch v) t.batch
        (read.called_by_event (port_terms s p) p t.event t.batch r) now
        (event-moved s p v r t.batch linked sim has t.event)
    by_limit false linked sim is = sim

pub handled-again : EndsAll → (s : Settings) (p : ℕ) → has_port s p ≡ true → (h : History) → IsRun s h
    → handled p (order_turns s h) ≡ (called_again (port_terms s p) p h).handled
handled-again ends s p has h run = (run-sim ends s p has h run).handled
