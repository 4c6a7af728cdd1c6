-- What an event leaves of a port: by its outcome, where the event is the port's own, and where it isn't.
use Rattle.std.proofs.Common.{◌≡◌, ◌==◌, ℕ, Bool, true, false, not, List, [], ◌∷◌, Option, Some, None, refl, ap, sym}
use Rattle.std.proofs.Common.{subst, ◌∙◌, is_some, eq-eqb, inl, inr, length, option_map}
use Rattle.std.proofs.Math.Dec.{eqb-suc-zero}
use Rattle.std.proofs.lemmas.Bool.{eqb-false, ne_eqb, cases_Bool, cond-true, cond-false}
use Rattle.std.specs.Prelude.{if◌then◌else◌, ◌&&◌, ◌⊎◌}
use Rattle.session_law.specs.fix_types.declared.application.AppMsg.{AppMsg}
use Rattle.session_law.specs.Runs.{OnMessage}
use Rattle.soup_session.specs.Faults.{fault_number}
use Rattle.soup_session.specs.Table.{PortCall, OnPacket, PortStanding, standing}
use Rattle.order_law.specs.ouch_codec.declared.outbound.Outbound.{Outbound}
use Rattle.order_law.specs.ouch_codec.Values.{decoded}
use Rattle.order_law.specs.History.{Heard, OrderHistory, handled}
use Rattle.order_law.specs.Headline.{Headline}
use Rattle.gate_law.specs.Settings.{Settings, port_terms, terms}
use Rattle.gate_law.specs.Events.{Event, ClientUp, ClientMessage, ClientGone, ClientTick, PortUp, PortPacket, PortGone}
use Rattle.gate_law.specs.Events.{PortTick, LinkOut, Batch, History, is_the_number}
use Rattle.gate_law.specs.Lists.{Lists, turned}
use Rattle.gate_law.specs.Sessions.{client_answer, port_answer, to_port}
use Rattle.gate_law.specs.Outcome.{Outcome, Refused, nothing, of_client, of_port, client_up, port_up, by_app}
use Rattle.gate_law.specs.Outcome.{by_payload, by_event, outcome, is_stepped, bodies, addressee}
use Rattle.gate_law.specs.After.{lists, lists_after, is_within_day, links_closed, with_outcome, port_moved}
use Rattle.gate_law.specs.After.{unless_closed}
use Rattle.gate_law.specs.Due.{Gives, due_port, port_named, to_port_of}
use Rattle.gate_law.specs.Promises.{Asks}
use Rattle.gate_law.specs.Holds.{Holds, OfTurn}
use Rattle.gate_law.proofs.Parts.{called, own-calls, other-calls, moved-other}
use Rattle.gate_law.proofs.Telling.{turns-after}
use Rattle.gate_law.proofs.Links.{Keeps, Quiet, link-due, outcome-keeps, same-if}
use Rattle.soup_session.proofs.Closes.{ends_by_close}
use Rattle.world_law.specs.Ports.{PortAfter, StandsAs, StepHolds, port_standing, outs_to_port}
use Rattle.world_law.proofs.Handled.{heard-other}

-- ---- what a history that keeps the promise says of its last event

on-day : (P : Type 0) (b : Batch) (c : Bool) → c ≡ true → OfTurn c P b → P
on-day P b true e x = x
on-day P b false e x = absurd (cc)

pub lists-step : (s : Settings) (h : History) (e : Event) (b : Batch) → is_within_day h ≡ true
    → lists s (record { event = e; batch = b } ∷ h) ≡ lists_after s e b (lists s h)
lists-step s h e b within = cond-true (is_within_day h) _ _ within

pub last-step : (s : Settings) (h : History) (e : Event) (b : Batch) → is_within_day h ≡ true
    → Holds s (record { event = e; batch = b } ∷ h) → StepHolds s e b (lists s h)
last-step s h e b within holds = record {
  gives = on-day (Gives s e b (lists s h)) b (is_within_day h) within holds.run.0;
  asks = on-day (Asks s e b (lists s h)) b (is_within_day h) within holds.asks.0;
  orders = subst (λ (v : Lists). Headline (terms s) v.turns) (lists-step s h e b within) holds.orders;
}

-- ---- standings

pub stands-same : (x : PortStanding) → StandsAs x x
stands-same x = record { state = refl; session = refl; arrived = refl; number = refl }

pub stands-is : (x y : PortStanding) → x ≡ y → StandsAs x y
stands-is x y is = subst (StandsAs x) is (stands-same x)

pub stands-joined : (x y z : PortStanding) → StandsAs x y → StandsAs y z → StandsAs x z
stands-joined x y z f g = record {
  state = f.state ∙ g.state;
  session = f.session ∙ g.session;
  arrived = f.arrived
      ∙ g.arrived;
  number = f.number ∙ g.number;
}

-- ---- what a link is told

none-if : (c : Bool) (outs : List LinkOut) → outs ≡ [] → (if c then outs else []) ≡ []
none-if true outs none = none
none-if false outs none = refl

told-by : (outs : List LinkOut) (w : Bool) (n p : ℕ) (named : Option ℕ)
    → named ≡ (if not ((length outs == 0) && w) then Some n else None)
    → (if is_the_number p named then outs else []) ≡ (if n == p then outs else [])
told-by [] w n p named is = none-if (is_the_number p named) [] refl ∙ sym (none-if (n == p) [] refl)
told-by (x ∷ outs) w n p named is =
    ap (λ (c : Option ℕ). if is_the_number p c then x ∷ outs else [])
    (is ∙ ap (λ (c : Bool). if not (c && w) then Some n else None) (eqb-suc-zero (length outs)))

pub told-due : (s : Settings) (e : Event) (b : Batch) (p : ℕ) → b.port ≡ due_port s e b
    → outs_to_port p b ≡ (if port_named s e == p then b.port_out else [])
told-due s e b p named = told-by b.port_out (not (is_some b.fault)) (port_named s e) p b.port named

pub no-lines : (link : Option ℕ) → to_port link [] ≡ []
no-lines None = refl
no-lines (Some link) = refl

-- ---- an event of the port's own, by what it comes to

module _ (s : Settings) (e : Event) (b : Batch) (v : Lists) (g : Gives s e b v) where
  pub own-after : (o : Outcome) → outcome s e b v ≡ o → port_named s e ≡ o.port
      → (outs : List LinkOut) (current : Option ℕ) (x : PortStanding) (said : List Outbound)
      → to_port_of s o v ≡ outs → unless_closed outs ((port_moved o.port o.port_link v).port_link o.port) ≡ current
      → StandsAs (standing (port_terms s o.port) (called o.port_calls (v.port_calls o.port))) x
      → handled o.port (turned o.turn v).turns ≡ said
      → PortAfter s e b v o.port outs current x said
  own-after o is named outs current x said is_outs is_current stands is_said = record {
    told = told-due s e b o.port g.port ∙ cond-true (port_named s e == o.port) _ _ own ∙ lines;
    link =
        ap (λ (w : Lists). w.port_link o.port) after
        ∙ link-due s e b v o o.port g.port
        ∙ cond-true (port_named s e == o.port) _ _ own
        ∙ ap (λ (ls : List LinkOut). unless_closed ls ((port_moved o.port o.port_link v).port_link o.port)) lines
        ∙ is_current;
    stands = subst (λ (cs : List PortCall). StandsAs (standing (port_terms s o.port) cs) x) (sym calls) stands;
    heard = ap (λ (w : Lists). handled o.port w.turns) after
        ∙ ap (λ (turns : OrderHistory). handled o.port turns) (turns-after o b v) ∙ is_said;
  }
    where
      own : (port_named s e == o.port) ≡ true
      own = eq-eqb (port_named s e) o.port named

      after : lists_after s e b v ≡ links_closed b (with_outcome o v)
      after = ap (λ (y : Outcome). links_closed b (with_outcome y v)) is

      lines : b.port_out ≡ outs
      lines = g.port_out ∙ ap (λ (y : Outcome). to_port_of s y v) is ∙ is_outs

      calls : (lists_after s e b v).port_calls o.port ≡ called o.port_calls (v.port_calls o.port)
      calls = ap (λ (w : Lists). w.port_calls o.port) after ∙ own-calls o b v o.port (eq-eqb o.port o.port refl)

-- ---- an event that is another port's

module _ (s : Settings) (p : ℕ) (v : Lists) where
  abbrev HandlesNone : Outcome → Type 0
  HandlesNone o = handled p (turned o.turn v).turns ≡ handled p v.turns

  -- only a port's own packet adds to what is handled of it
  event-heard : (e : Event) (b : Batch) → (port_named s e == p) ≡ false → HandlesNone (by_event s e b v)
  event-heard (ClientUp client link at) b apart = by_link (v.client_link client)
    where
      by_link : (current : Option ℕ) → HandlesNone (client_up client link at current)
      by_link None = refl
      by_link (Some n) = by_number (n == link)
        where
          by_number : (w : Bool) → HandlesNone (if w then nothing else of_client client (Refused link) [])
          by_number true = refl
          by_number false = refl
  event-heard (ClientMessage client link at frame) b apart =
      by_app_of (client_answer s client (v.client_calls client) (at, OnMessage frame)).app
    where
      by_app_of : (app : Option AppMsg) → HandlesNone (by_app s client at frame b v app)
      by_app_of None = refl
      by_app_of (Some app) = refl
  event-heard (ClientGone client link at) b apart = refl
  event-heard (ClientTick client at) b apart = refl
  event-heard (PortUp q link at) b apart = by_link (v.port_link q)
    where
      by_link : (current : Option ℕ) → HandlesNone (port_up q link at current)
      by_link None = refl
      by_link (Some n) = by_number (n == link)
        where
          by_number : (w : Bool) → HandlesNone (if w then nothing else of_port q (Refused link) [])
          by_number true = refl
          by_number false = refl
  event-heard (PortPacket q link at packet) b apart =
      by_payload_of (port_answer s q (v.port_calls q) (OnPacket packet at)).payload
    where
      by_payload_of : (payload : Option (List ℕ))
          → HandlesNone (by_payload q at packet b (port_answer s q (v.port_calls q) (OnPacket packet at)) payload)
      by_payload_of None = refl
      by_payload_of (Some payload) = heard-other p q (decoded payload)
          (record {
            event = Heard q (decoded payload);
            client = addressee b;
            bodies = bodies b;
            sends = [];
            fault =
                option_map fault_number b.fault;
          }) v.turns apart
  event-heard (PortGone q link at) b apart = refl
  event-heard (PortTick q at) b apart = refl

  outcome-heard : (e : Event) (b : Batch) → (port_named s e == p) ≡ false → HandlesNone (outcome s e b v)
  outcome-heard e b apart = by_step (is_stepped s e v)
    where
      by_step : (w : Bool) → HandlesNone (if w then by_event s e b v else nothing)
      by_step true = event-heard e b apart
      by_step false = refl

  -- another port's event, or one of a client of another port, leaves the port as it was
  pub other-after : (e : Event) (b : Batch) → Gives s e b v → (port_named s e == p) ≡ false
      → PortAfter s e b v p [] (v.port_link p) (port_standing s v p) (handled p v.turns)
  other-after e b g apart = record {
    told = told-due s e b p g.port ∙ cond-false (port_named s e == p) _ _ apart;
    link = link-due s e b v o p g.port ∙ cond-false (port_named s e == p) _ _ apart
        ∙ moved (outcome-keeps ends_by_close s e b v);
    stands = subst (λ (cs : List PortCall). StandsAs (standing (port_terms s p) cs) (port_standing s v p))
        (sym (calls (cases_Bool (p == o.port)) (outcome-keeps ends_by_close s e b v)))
        (stands-same (port_standing s v p));
    heard = ap (λ (turns : OrderHistory). handled p turns) (turns-after o b v) ∙ outcome-heard e b apart;
  }
    where
      o : Outcome
      o = outcome s e b v

      away : o.port ≡ port_named s e → (p == o.port) ≡ false
      away named = ne_eqb p o.port (λ same. eqb-false (port_named s e) p apart (sym (same ∙ named)))

      moved : Keeps s v (port_named s e) o → (port_moved o.port o.port_link v).port_link p ≡ v.port_link p
      moved (inl own) = moved-other o.port p o.port_link v (away own.0)
      moved (inr quiet) = quiet.links p

      calls : ((p == o.port) ≡ true) ⊎ ((p == o.port) ≡ false) → Keeps s v (port_named s e) o
          → (lists_after s e b v).port_calls p ≡ v.port_calls p
      calls (inr far) keeps = other-calls o b v p far
      calls (inl same) (inl own) = other-calls o b v p (away own.0)
      calls (inl same) (inr quiet) = own-calls o b v p same
          ∙ ap (λ (cs : List PortCall). called cs (v.port_calls p)) quiet.calls

  -- an event that leaves ports alone
  pub quiet-after : (e : Event) (b : Batch) → Gives s e b v → (o : Outcome) → outcome s e b v ≡ o → Quiet s v o
      → HandlesNone o → PortAfter s e b v p [] (v.port_link p) (port_standing s v p) (handled p v.turns)
  quiet-after e b g o is quiet none = record {
    told = told-due s e b p g.port ∙ none-if (port_named s e == p) b.port_out lines;
    link =
        ap (λ (w : Lists). w.port_link p) after
        ∙ link-due s e b v o p g.port
        ∙ ap (λ (outs : List LinkOut). if port_named s e == p then unless_closed outs
        ((port_moved o.port o.port_link v).port_link p) else (port_moved o.port o.port_link v).port_link p) lines
        ∙ same-if (port_named s e == p) ((port_moved o.port o.port_link v).port_link p)
        ∙ quiet.links p;
    stands = subst (λ (cs : List PortCall). StandsAs (standing (port_terms s p) cs) (port_standing s v p)) (sym calls)
        (stands-same (port_standing s v p));
    heard = ap (λ (w : Lists). handled p w.turns) after
        ∙ ap (λ (turns : OrderHistory). handled p turns) (turns-after o b v) ∙ none;
  }
    where
      after : lists_after s e b v ≡ links_closed b (with_outcome o v)
      after = ap (λ (y : Outcome). links_closed b (with_outcome y v)) is

      lines : b.port_out ≡ []
      lines = g.port_out ∙ ap (λ (y : Outcome). to_port_of s y v) is ∙ quiet.lines

      calls : (lists_after s e b v).port_calls p ≡ v.port_calls p
      calls = ap (λ (w : Lists). w.port_calls p) after ∙ by_port (cases_Bool (p == o.port))
        where
          by_port : ((p == o.port) ≡ true) ⊎ ((p == o.port) ≡ false)
              → (links_closed b (with_outcome o v)).port_calls p ≡ v.port_calls p
          by_port (inl same) = own-calls o b v p same
              ∙ ap (λ (cs : List PortCall). called cs (v.port_calls p)) quiet.calls
          by_port (inr far) = other-calls o b v p far

  -- what is a client's alone, or nothing at all
  pub no-port : Quiet s v nothing
  no-port = record { lines = no-lines (v.port_link 0); links = λ q. refl; calls = refl }

  -- an event that does nothing
  pub unstepped-after : (e : Event) (b : Batch) → Gives s e b v → is_stepped s e v ≡ false
      → PortAfter s e b v p [] (v.port_link p) (port_standing s v p) (handled p v.turns)
  unstepped-after e b g none = quiet-after e b g nothing (cond-false (is_stepped s e v) _ _ none) no-port refl
