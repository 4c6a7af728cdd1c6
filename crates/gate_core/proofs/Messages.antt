-- A frame whose message is delivered: the batch, and the parts after it.
use Rattle.std.proofs.Common.{◌≡◌, ℕ, true, false, List, [], ◌∷◌, ◌++◌, map, length, Option, Some, None, refl, sym, ap}
use Rattle.std.proofs.Common.{◌∙◌, subst, eq-eqb}
use Rattle.std.specs.Prelude.{◌&&◌, is_some}
use Rattle.std.specs.List.{flat_map}
use Rattle.fix_types.specs.declared.application.AppMsg.{AppMsg}
use Rattle.fix_types.specs.Application.{message_fields}
use Rattle.session_law.specs.Frames.{ToldLink, told_of_out}
use Rattle.session_law.specs.Runs.{Timed, OnMessage}
use Rattle.gate_events.specs.Seen.{link_out_seen}
use Rattle.soup_session.specs.declared.port_state.PortState.{PortState}
use Rattle.soup_session.specs.declared.port_state.PortState.TheVariants.{Down, LoggingIn, Up, Ended, Faulted}
use Rattle.soup_session.specs.States.{is_open, is_up}
use Rattle.soup_session.specs.Table as table
use Rattle.gate_sessions.specs.order_law.Headline.{Headline}
use Rattle.gate_sessions.specs.order_law.History as orders
use Rattle.fix_fields.specs.Field.{Message}
use Rattle.gate_law.specs.Settings.{Settings, client_name, has_client, port_of, terms}
use Rattle.gate_law.specs.Events.{ClientMessage, LinkOut, Batch, is_the_number}
use Rattle.gate_law.specs.Lists.{Lists, turned, client_called, client_called_all}
use Rattle.gate_law.specs.Sessions.{client_answer, client_outs, client_reports, issues, port_outs, port_state}
use Rattle.gate_law.specs.Sessions.{report_issued, sends, stands_of, to_port}
use Rattle.gate_law.specs.Outcome.{Outcome, Stays, asked, message_in, messages, outcome}
use Rattle.gate_law.specs.After.{lists_after, links_closed, with_outcome}
use Rattle.gate_law.specs.Due.{to_client_of, to_port_of, reports_of}
use Rattle.gate_sessions.specs.Lines.{ClientsLeave, ClientLinks, PortsLeave, PortLinks}
use Rattle.gate_core.specs.declared.parts.Parts.{Parts}
use Rattle.gate_core.specs.declared.parts.client_messages.Asked.{Asked}
use Rattle.gate_sessions.specs.Links.{outs_told_on, unlinked}
use Rattle.gate_core.specs.State.{AreOpenOnLinks, ArePartsOf}
use Rattle.gate_core.specs.Steps.{IsAsked, OnlyWhileUp, Stepped, after_turn, orders_turn_of}
use Rattle.gate_events.specs.Batches.{batch_of}
use Rattle.gate_core.proofs.ClientEvents.{client-called-is}
use Rattle.gate_core.proofs.Closed.{closed-parts}
use Rattle.gate_core.proofs.Parted.{port-called-is}
use Rattle.gate_core.proofs.Told.{client-told, nothing-on-port}

-- ---- lists after a turn

after-is : (s : Settings) (n at : ℕ) (t : orders.OrderTurn) (v : Lists)
    → (w : Lists) × (after_turn s n at t v ≡ w) × (w.client_link ≡ v.client_link) × (w.turns ≡ t ∷ v.turns)
after-is s n at t v = (
  _,
  port-called-is (port_of s n) (sends at t.sends) (client_called_all n (issues at t.bodies) (turned (Some t) v)),
  ap (λ (w : Lists). w.client_link) (client-called-is n (issues at t.bodies) (turned (Some t) v)),
  ap (λ (w : Lists). w.turns) (client-called-is n (issues at t.bodies) (turned (Some t) v)),
)

client-links-stay : (s : Settings) (n at : ℕ) (t : orders.OrderTurn) (v : Lists)
    → (after_turn s n at t v).client_link ≡ v.client_link
client-links-stay s n at t v = let is = after-is s n at t v in ap (λ (w : Lists). w.client_link) is.1 ∙ is.2

one-turn-more : (s : Settings) (n at : ℕ) (t : orders.OrderTurn) (v : Lists)
    → (after_turn s n at t v).turns ≡ t ∷ v.turns
one-turn-more s n at t v = let is = after-is s n at t v in ap (λ (w : Lists). w.turns) is.1 ∙ is.3

-- a call of one's own is the newest
own-call : (n : ℕ) (call : Timed) (v : Lists) → (client_called n call v).client_calls n ≡ call ∷ v.client_calls n
own-call n call v = rw (eq-eqb n n refl) refl

no-frame-report : (s : Settings) (n at : ℕ) (frame : Message) (before : List Timed)
    → report_issued s n before (at, OnMessage frame) ≡ []
unfolding report_issued
no-frame-report s n at frame before = refl

-- ---- the messages that are read off the batch

closed-not-up : (state : PortState) → is_open state ≡ false → is_up state ≡ false
closed-not-up Down e = refl
closed-not-up LoggingIn e = refl
closed-not-up Up e = e
closed-not-up Ended e = refl
closed-not-up (Faulted n) e = refl

-- The law that packets have the messages sent, as it is cited
abbrev pub HaveMessages : Type 0
HaveMessages = (s : Settings) (p link at : ℕ) (before : List table.PortCall) (ms : List (List ℕ))
    → flat_map message_in (to_port (Some link) (port_outs s p before (sends at ms))) ≡ ms

pub messages-read : (s : Settings) (p at : ℕ) (v : Lists) (ms : List (List ℕ)) (outs : List LinkOut) → HaveMessages
    → AreOpenOnLinks s v → OnlyWhileUp s p v ms
    → outs ≡ to_port (v.port_link p) (port_outs s p (v.port_calls p) (sends at ms)) → flat_map message_in outs ≡ ms
messages-read s p at v ms outs have linked only are = by_link (v.port_link p) refl
  where
    by_link : (link : Option ℕ) → v.port_link p ≡ link → flat_map message_in outs ≡ ms
    by_link (Some link) is =
        ap (flat_map message_in) (are ∙ ap (λ (l : Option ℕ). to_port l (port_outs s p (v.port_calls p) (sends at ms)))
        is) ∙ have s p link at (v.port_calls p) ms
    by_link None is =
        ap (flat_map message_in) (are ∙ ap (λ (l : Option ℕ). to_port l (port_outs s p (v.port_calls p) (sends at ms)))
        is)
        ∙ sym (only (closed-not-up (port_state s p (v.port_calls p)) (linked p ∙ ap is_some is)))

-- ---- the outcome

-- with these bodies and messages
abbrev asked_with : Settings → ℕ → ℕ → Message → Lists → AppMsg → List Message → List (List ℕ) → Outcome
asked_with s client at frame v app bs ms = record {
  client = client;
  client_link = Stays;
  client_calls = (at, OnMessage frame) ∷ issues at bs;
  turn = Some (record {
    event = orders.Came client (message_fields app)
        (stands_of (port_state s (port_of s client) (v.port_calls (port_of s client))));
    client = client;
    bodies = bs;
    sends = ms;
    fault = None;
  });
  port = port_of s client;
  port_link = Stays;
  port_calls = sends at ms;
  fault = None;
}

-- ---- the step

pub asked-step : {S H : Type 0} (s : Settings) (v : Lists) (mid new : Parts S H) (n link at : ℕ) (frame : Message)
    (message : AppMsg) (out : Asked) (first : List ToldLink) (client_out port_out : List LinkOut)
    → HaveMessages → (has_client s n && is_the_number link (v.client_link n)) ≡ true
    → (client_answer s n (v.client_calls n) (at, OnMessage frame)).app ≡ Some message
    → first ≡ map (told_of_out s.comp (client_name s n))
    (client_answer s n (v.client_calls n) (at, OnMessage frame)).outs
    → AreOpenOnLinks s v
    → (asked : IsAsked s n at message out (client_called n (at, OnMessage frame) v) mid)
    → (let x = after_turn s n at (orders_turn_of s n message asked.core v) (client_called n (at, OnMessage frame) v) in
    client_out ≡ outs_told_on (x.client_link n) first ++ map link_out_seen out.issues.outs.items
    → port_out ≡ to_port (x.port_link (port_of s n)) [] ++ map link_out_seen out.port_outs.items
    → ClientsLeave s x.client_calls new.clients.lines.items
    → ClientLinks (unlinked n client_out x.client_link) new.clients.lines.items
    → length new.clients.lines.items ≡ length mid.clients.lines.items
    → PortsLeave s x.port_calls new.ports.lines.items
    → PortLinks (unlinked (port_of s n) port_out x.port_link) new.ports.lines.items
    → length new.ports.lines.items ≡ length mid.ports.lines.items
    → new.client_ports ≡ mid.client_ports → new.orders ≡ mid.orders
    → Stepped s (ClientMessage n link at frame)
    (batch_of n out.issues.reports.items client_out (port_of s n) port_out None) v new)
asked-step s v mid new n link at frame message out first client_out port_out have on app said linked asked told_lines
    told_packets leave links count ports_leave port_links port_count same_client_ports same_orders =
    let p = port_of s n in
    let call : Timed = (at, OnMessage frame) in
    let w : Lists = client_called n call v in
    let t = orders_turn_of s n message asked.core v in
    let x : Lists = after_turn s n at t w in
    let reports = out.issues.reports.items in
    let b : Batch = batch_of n reports client_out p port_out None in
    let o : Outcome = asked_with s n at frame v message t.bodies t.sends in
    let packets : port_out ≡ to_port (v.port_link p) (port_outs s p (v.port_calls p) (sends at t.sends)) =
    told_packets
    ∙ ap (λ (xs : List LinkOut). xs ++ map link_out_seen out.port_outs.items) (sym (nothing-on-port (x.port_link p)))
    ∙ asked.port_outs_are in
    let sent : messages b ≡ t.sends = messages-read s p at v t.sends port_out have linked asked.only packets in
    let is : outcome s (ClientMessage n link at frame) b v ≡ o =
    rw (on, app) refl
    ∙ ap (λ (bs : List Message). asked_with s n at frame v message bs (messages b)) asked.bodies_are
    ∙ ap (λ (ms : List (List ℕ)). asked_with s n at frame v message t.bodies ms) sent in
    let left : lists_after s (ClientMessage n link at frame) b v ≡ links_closed b x =
    ap (λ (y : Outcome). links_closed b (with_outcome y v)) is in
    record {
      gives = record {
        client_out = told_lines
            ∙ ap (λ (l : ℕ → Option ℕ). outs_told_on (l n) first ++ map link_out_seen out.issues.outs.items)
            (client-links-stay s n at t w)
            ∙ client-told s n (v.client_link n) _ first (map link_out_seen out.issues.outs.items)
            (client_answer s n (v.client_calls n) call).outs
            (client_outs s n (call ∷ v.client_calls n) (issues at t.bodies)) refl said
            (asked.outs ∙ ap (λ (calls : List Timed). outs_told_on (v.client_link n)
            (map (told_of_out s.comp (client_name s n)) (client_outs s n calls (issues at t.bodies))))
            (own-call n call v))
            ∙ ap (λ (y : Outcome). to_client_of s y v) (sym is);
        reports = asked.reports
            ∙ ap (λ (calls : List Timed). client_reports s n calls (issues at t.bodies)) (own-call n call v)
            ∙ ap (λ (none : List Message). none ++ client_reports s n (call ∷ v.client_calls n) (issues at t.bodies))
            (sym (no-frame-report s n at frame (v.client_calls n)))
            ∙ ap (λ (y : Outcome). reports_of s y v) (sym is);
        port_out = packets ∙ ap (λ (y : Outcome). to_port_of s y v) (sym is);
        fault = ap (λ (y : Outcome). y.fault) (sym is);
        client = refl;
        port = refl;
      };
      asks = rw (on, app) tt;
      orders = λ holds. subst (λ (y : Lists). Headline (terms s) y.turns) (sym left)
          (subst (λ (h : orders.OrderHistory). Headline (terms s) h) (sym (one-turn-more s n at t w)) asked.headline);
      parts = subst (λ (y : Lists). ArePartsOf s y new) (sym left)
          (closed-parts s n p reports client_out port_out None x mid new asked.parts leave links count ports_leave
          port_links port_count same_client_ports same_orders);
    }
