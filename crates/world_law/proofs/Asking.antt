-- What becomes of a port at an event of one of its clients: what the event asks of it goes out, if the port is up.
use Rattle.std.proofs.Common.{◌≡◌, ◌==◌, ℕ, Bool, true, false, List, [], Option, Some, None, refl, sym, subst, ◌∙◌, inl}
use Rattle.std.proofs.Common.{inr}
use Rattle.std.proofs.lemmas.Bool.{eqb-true, cases_Bool, cond-true}
use Rattle.std.specs.Prelude.{if◌then◌else◌, ◌⊎◌}
use Rattle.session_law.specs.fix_types.declared.application.AppMsg.{AppMsg}
use Rattle.session_law.specs.Runs.{OnMessage, Timed}
use Rattle.soup_session.specs.declared.port_state.PortState.{PortState}
use Rattle.soup_session.specs.declared.port_state.PortState.TheVariants.{Down, LoggingIn, Up, Ended, Faulted}
use Rattle.soup_session.specs.States.{is_up}
use Rattle.fix_fields.specs.Field.{Message}
use Rattle.order_law.specs.History.{Asked, OrderHistory, handled}
use Rattle.order_law.specs.Headline.{Each, Headline, Sends}
use Rattle.gate_law.specs.Settings.{Settings, port_of, port_terms, terms}
use Rattle.gate_law.specs.Events.{Event, ClientUp, ClientMessage, ClientGone, ClientTick, PortUp, PortPacket, PortGone}
use Rattle.gate_law.specs.Events.{PortTick, LinkOut, Batch}
use Rattle.gate_law.specs.Lists.{Lists, turned}
use Rattle.gate_law.specs.Sessions.{client_answer, port_outs, port_state, sends, stands_of, to_port}
use Rattle.gate_law.specs.Outcome.{LinkMove, Stays, Comes, Refused, Outcome, nothing, of_client, asked, by_app}
use Rattle.gate_law.specs.Outcome.{by_event, client_up, outcome, is_stepped, messages}
use Rattle.gate_law.specs.Outcome.{Goes as gone}
use Rattle.gate_law.specs.After.{lists_after, unless_closed}
use Rattle.gate_law.specs.Due.{Gives}
use Rattle.gate_law.proofs.Links.{Quiet}
use Rattle.gate_law.proofs.Telling.{turns-after}
use Rattle.world_law.specs.Asked.{BytesAsked}
use Rattle.world_law.specs.Ports.{SendsAsked, PortAfter, StepHolds, is_of_client, port_standing, written_on}
use Rattle.world_law.proofs.Writing.{by-message}
use Rattle.world_law.proofs.Ports.{no-lines, no-port, other-after, own-after, quiet-after, unstepped-after}
use Rattle.world_law.proofs.Arrivals.{sends-stand, sends-written, written-leave}

module _ (s : Settings) (p : ℕ) (v : Lists) (b : Batch) where
  -- ---- nothing is at fault

  abbrev IsFaultless : Outcome → Type 0
  IsFaultless o = o.fault ≡ None

  client-faultless : (e : Event) → is_of_client e ≡ true → IsFaultless (by_event s e b v)
  client-faultless (ClientUp client link at) of = by_link (v.client_link client)
    where
      by_link : (current : Option ℕ) → IsFaultless (client_up client link at current)
      by_link None = refl
      by_link (Some n) = by_number (n == link)
        where
          by_number : (w : Bool) → IsFaultless (if w then nothing else of_client client (Refused link) [])
          by_number true = refl
          by_number false = refl
  client-faultless (ClientMessage client link at frame) of =
      by_app_of (client_answer s client (v.client_calls client) (at, OnMessage frame)).app
    where
      by_app_of : (app : Option AppMsg) → IsFaultless (by_app s client at frame b v app)
      by_app_of None = refl
      by_app_of (Some app) = refl
  client-faultless (ClientGone client link at) of = refl
  client-faultless (ClientTick client at) of = refl
  client-faultless (PortUp q link at) of = absurd (cc)
  client-faultless (PortPacket q link at packet) of = absurd (cc)
  client-faultless (PortGone q link at) of = absurd (cc)
  client-faultless (PortTick q at) of = absurd (cc)

  pub client-fault : (e : Event) → Gives s e b v → is_of_client e ≡ true → b.fault ≡ None
  client-fault e g of = g.fault ∙ by_step (is_stepped s e v)
    where
      by_step : (w : Bool) → IsFaultless (if w then by_event s e b v else nothing)
      by_step true = client-faultless e of
      by_step false = refl

  -- ---- nothing is sent

  no-messages : (current : Option ℕ) → written_on current [] ≡ []
  no-messages None = refl
  no-messages (Some link) = refl

  unsent : (e : Event) → b.fault ≡ None → PortAfter s e b v p [] (v.port_link p) (port_standing s v p)
      (handled p v.turns) → SendsAsked s e b v p []
  unsent e none after = record {
    after = subst (λ (outs : List LinkOut). PortAfter s e b v p outs (v.port_link p) (port_standing s v p)
        (handled p v.turns)) (sym (no-messages (v.port_link p))) after;
    fault = none;
    asked = tt;
    down = λ is. refl;
  }

  -- a client's own link and session, and no port's
  of-client : (client : ℕ) (move : LinkMove) (made : List Timed) → Quiet s v (of_client client move made)
  of-client client move made = record { lines = no-lines (v.port_link 0); links = λ q. refl; calls = refl }

  alone : (e : Event) → Gives s e b v → is_of_client e ≡ true → (client : ℕ) (move : LinkMove) (made : List Timed)
      → outcome s e b v ≡ of_client client move made → SendsAsked s e b v p []
  alone e g of client move made is = unsent e (client-fault e g of)
      (quiet-after s p v e b g (of_client client move made) is (of-client client move made) refl)

  idle : (e : Event) → Gives s e b v → is_of_client e ≡ true → is_stepped s e v ≡ false → SendsAsked s e b v p []
  idle e g of none = unsent e (client-fault e g of) (unstepped-after s p v e b g none)

  -- by whether the event does anything
  by-step : (e : Event) → Gives s e b v → is_of_client e ≡ true
      → (is_stepped s e v ≡ true → (ms : List (List ℕ)) × SendsAsked s e b v p ms)
      → (ms : List (List ℕ)) × SendsAsked s e b v p ms
  by-step e g of stepped = by_test (cases_Bool (is_stepped s e v))
    where
      by_test : (is_stepped s e v ≡ true) ⊎ (is_stepped s e v ≡ false) → (ms : List (List ℕ)) × SendsAsked s e b v p ms
      by_test (inl on) = stepped on
      by_test (inr off) = ([], idle e g of off)

  up-sent : (client link at : ℕ) → Gives s (ClientUp client link at) b v → (current : Option ℕ)
      → outcome s (ClientUp client link at) b v ≡ client_up client link at current
      → SendsAsked s (ClientUp client link at) b v p []
  up-sent client link at g None is = alone (ClientUp client link at) g refl client (Comes link) _ is
  up-sent client link at g (Some n) is = by_number (n == link) is
    where
      by_number : (w : Bool) → outcome s (ClientUp client link at) b v
          ≡ (if w then nothing else of_client client (Refused link) [])
          → SendsAsked s (ClientUp client link at) b v p []
      by_number true none = unsent (ClientUp client link at) (client-fault (ClientUp client link at) g refl)
          (quiet-after s p v (ClientUp client link at) b g nothing none (no-port s p v) refl)
      by_number false refused = alone (ClientUp client link at) g refl client (Refused link) [] refused

-- ---- a message that is delivered

module _ (s : Settings) (v : Lists) (b : Batch) (client link at : ℕ) (frame : Message) where
  abbrev this : Event
  this = ClientMessage client link at frame

  abbrev own : ℕ
  own = port_of s client

  none-down : (state : PortState) (P : Asked → List ℕ → Type 0) (asks : List Asked) (ms : List (List ℕ))
      → is_up state ≡ false → Sends (stands_of state) P asks ms → ms ≡ []
  none-down Up P asks ms down sends = absurd (cc)
  none-down Down P asks ms down sends = sends
  none-down LoggingIn P asks ms down sends = sends
  none-down Ended P asks ms down sends = sends
  none-down (Faulted fault) P asks ms down sends = sends

  state-is : is_up (port_state s own (v.port_calls own)) ≡ is_up (port_standing s v own).state
  unfolding port_state
  state-is = refl

  on-link : (current : Option ℕ) (ms : List (List ℕ))
      → to_port current (port_outs s own (v.port_calls own) (sends at ms)) ≡ written_on current ms
  on-link None ms = refl
  on-link (Some l) ms = sends-written s own l at ms (v.port_calls own)

  leaves : (current : Option ℕ) (ms : List (List ℕ)) → unless_closed (written_on current ms) current ≡ current
  leaves None ms = refl
  leaves (Some l) ms = written-leave l ms (Some l)

  delivered-sent : (app : AppMsg) → StepHolds s this b v → outcome s this b v ≡ asked s client at frame b v app
      → SendsAsked s this b v own (messages b)
  delivered-sent app steps is = record {
    after =
        own-after s this b v steps.gives (asked s client at frame b v app) is refl
        (written_on (v.port_link own) (messages b)) (v.port_link own) (port_standing s v own) (handled own v.turns)
        (on-link (v.port_link own) (messages b))
        (leaves (v.port_link own) (messages b))
        (sends-stand (port_terms s own) at (messages b) (v.port_calls own))
        refl;
    fault = client-fault s own v b this steps.gives refl;
    asked =
        subst (λ (turns : OrderHistory). Each (BytesAsked (terms s) own turns) (messages b)) (sym turns)
        (by-message s b v own client link at frame refl (subst (Headline (terms s)) turns steps.orders) steps.asks);
    down = λ down.
        none-down (port_state s own (v.port_calls own)) _ _ (messages b) (state-is ∙ down)
        (subst (λ (o : Outcome). Headline (terms s) (turned o.turn v).turns) is
        (subst (Headline (terms s)) turns steps.orders)).0.answers.sends;
  }
    where
      turns : (lists_after s this b v).turns ≡ (turned (outcome s this b v).turn v).turns
      turns = turns-after (outcome s this b v) b v

-- ---- an event

module _ (s : Settings) (p : ℕ) (v : Lists) (b : Batch) where
  message-sent : (client link at : ℕ) (frame : Message) → StepHolds s (ClientMessage client link at frame) b v
      → (app : Option AppMsg)
      → outcome s (ClientMessage client link at frame) b v ≡ by_app s client at frame b v app
      → (ms : List (List ℕ)) × SendsAsked s (ClientMessage client link at frame) b v p ms
  message-sent client link at frame steps None is =
      ([], alone s p v b (ClientMessage client link at frame) steps.gives refl client Stays _ is)
  message-sent client link at frame steps (Some app) is = by_port (cases_Bool (port_of s client == p))
    where
      by_port : ((port_of s client == p) ≡ true) ⊎ ((port_of s client == p) ≡ false)
          → (ms : List (List ℕ)) × SendsAsked s (ClientMessage client link at frame) b v p ms
      by_port (inl same) = (
        messages b,
        subst (λ (q : ℕ). SendsAsked s (ClientMessage client link at frame) b v q
            (messages b)) (eqb-true (port_of s client) p same) (delivered-sent s v b client link at frame app steps is),
      )
      by_port (inr apart) = (
        [],
        unsent s p v b (ClientMessage client link at frame)
            (client-fault s p v b (ClientMessage client link at frame) steps.gives refl)
            (other-after s p v (ClientMessage client link at frame) b steps.gives apart),
      )

  pub client-after : (e : Event) → is_of_client e ≡ true → StepHolds s e b v
      → (ms : List (List ℕ)) × SendsAsked s e b v p ms
  client-after (ClientUp client link at) of steps =
      by-step s p v b (ClientUp client link at) steps.gives of
      (λ on. (
        [],
        up-sent s p v b client link at steps.gives (v.client_link client)
            (cond-true (is_stepped s (ClientUp client link at) v) _ _ on),
      ))
  client-after (ClientMessage client link at frame) of steps =
      by-step s p v b (ClientMessage client link at frame) steps.gives of
      (λ on. message-sent client link at frame steps
      (client_answer s client (v.client_calls client) (at, OnMessage frame)).app
      (cond-true (is_stepped s (ClientMessage client link at frame) v) _ _ on))
  client-after (ClientGone client link at) of steps =
      by-step s p v b (ClientGone client link at) steps.gives of
      (λ on. (
        [],
        alone s p v b (ClientGone client link at) steps.gives refl client gone _
            (cond-true (is_stepped s (ClientGone client link at) v) _ _ on),
      ))
  client-after (ClientTick client at) of steps =
      by-step s p v b (ClientTick client at) steps.gives of
      (λ on. (
        [],
        alone s p v b (ClientTick client at) steps.gives refl client Stays _
            (cond-true (is_stepped s (ClientTick client at) v) _ _ on),
      ))
  client-after (PortUp q link at) of steps = absurd (cc)
  client-after (PortPacket q link at packet) of steps = absurd (cc)
  client-after (PortGone q link at) of steps = absurd (cc)
  client-after (PortTick q at) of steps = absurd (cc)
