-- A port's packet of which the session delivers no payload.
use Rattle.std.proofs.Common.{◌≡◌, ℕ, Bool, true, false, List, [], ◌∷◌, ◌++◌, length, Option, Some, None, refl, sym}
use Rattle.std.proofs.Common.{ap, ◌∙◌, eqb-true, eq-eqb, subst}
use Rattle.std.specs.Prelude.{◌&&◌, if◌then◌else◌, option_to_list}
use Rattle.std.specs.List.{flat_map}
use Rattle.gate_law.specs.soup_packets.declared.packet.Packet.{Packet}
use Rattle.soup_session.specs.declared.port_fault.PortFault.{PortFault}
use Rattle.soup_session.specs.declared.port_state.PortState.{PortState}
use Rattle.soup_session.specs.declared.port_turn.PortOut.{PortOut}
use Rattle.soup_session.specs.declared.port_turn.PortTurn.{PortTurn}
use Rattle.soup_session.specs.States.{is_up}
use Rattle.soup_session.specs.Table.{PortCall, OnPacket, PortAnswer}
use Rattle.soup_session.specs.Calls.{IsAnswer}
use Rattle.gate_law.specs.Settings.{Settings, has_port, port_terms}
use Rattle.soup_session.proofs.Brought.{delivered-is}
use Rattle.gate_law.specs.Events.{Event, PortPacket, LinkOut, Batch, is_the_number}
use Rattle.gate_law.specs.Lists.{Lists, port_called}
use Rattle.gate_law.specs.Sessions.{port_answer, port_outs, port_state, sends, to_port, fault_in}
use Rattle.gate_law.specs.Outcome.{Stays, message_in, messages, by_event, by_payload, nothing}
use Rattle.gate_law.specs.Promises.{AsksAgain, comes_up, delivers_message}
use Rattle.gate_sessions.specs.Lines.{PortsLeave, PortLinks, called, called_all}
use Rattle.gate_core.specs.declared.parts.Parts.{Parts}
use Rattle.gate_sessions.specs.Links.{unlinked}
use Rattle.gate_core.specs.Steps.{AfterPacket, Ready, Stepped}
use Rattle.gate_events.specs.Batches.{batch_of}
use Rattle.gate_core.specs.Hearing.{IsSentAgain, AreDue, came_up}
use Rattle.gate_core.proofs.Told.{port-told-with}
use Rattle.gate_core.proofs.Parted.{ports-parts}
use Rattle.gate_core.proofs.PortEvents.{port-event, by_port}
use Rattle.gate_core.proofs.PortLinks.{ReadsSent}

pub comes-up : (stood stands : PortState) → is_up stood ≡ false → is_up stands ≡ true → came_up stood stands ≡ true
comes-up stood stands before now = rw (before, now) refl

-- ---- the step

state-after : (s : Settings) (p : ℕ) (before : List PortCall) (c : PortCall)
    → port_state s p (c ∷ before) ≡ (port_answer s p before c).after.state
unfolding port_state port_answer
state-after s p before c = refl

called-here : (p : ℕ) (c : PortCall) (v : Lists) → (port_called p c v).port_calls p ≡ c ∷ v.port_calls p
called-here p c v = ap (λ (w : Bool). if w then c ∷ v.port_calls p else v.port_calls p) (eq-eqb p p refl)

-- how the port stands after the call
stands-after : (s : Settings) (p : ℕ) (c : PortCall) (v : Lists)
    → port_state s p ((port_called p c v).port_calls p) ≡ (port_answer s p (v.port_calls p) c).after.state
stands-after s p c v = ap (port_state s p) (called-here p c v) ∙ state-after s p (v.port_calls p) c

-- what is due after the call is what the event asks
asks-due : (up : Bool) (s : Settings) (p : ℕ) (c : PortCall) (v : Lists) (ms : List (List ℕ)) (b : Batch)
    → messages b ≡ ms → AreDue up s p (port_called p c v) ms → AsksAgain up s p false b v
asks-due true s p c v ms b is due = subst (λ (m : List (List ℕ)). AreDue true s p v m) (sym is) due
asks-due false s p c v ms b is due = is ∙ due

-- a link that is the current one
current-is : (has : Bool) (link : ℕ) (current : Option ℕ) → (has && is_the_number link current) ≡ true
    → current ≡ Some link
current-is true link (Some current) on = ap Some (eqb-true current link on)
current-is true link None on = absurd (cc)
current-is false link current on = absurd (cc)

pub port-heard : {S H : Type 0} → ReadsSent
    → (s : Settings) (v : Lists) (p link at : ℕ) (packet : Packet) (stood : PortState) (said : List PortOut)
    (more : List LinkOut) (fault : Option PortFault) (outs : List LinkOut) (heard g new : Parts S H)
    → AfterPacket s p link at packet None said v heard
    → stood ≡ port_state s p (v.port_calls p)
    → (again : IsSentAgain s p at stood more (port_called p (OnPacket packet at) v) g)
    → fault ≡ fault_in (port_state s p ((port_called p (OnPacket packet at) v).port_calls p))
    → outs ≡ to_port (v.port_link p) said ++ more
    → PortsLeave s (called_all p (OnPacket packet at ∷ sends at again.messages) v.port_calls) new.ports.lines.items
    → PortLinks (unlinked p outs v.port_link) new.ports.lines.items
    → length new.ports.lines.items ≡ length g.ports.lines.items
    → new.clients ≡ g.clients → new.client_ports ≡ g.client_ports → new.orders ≡ g.orders
    → Stepped s (PortPacket p link at packet) (batch_of 0 [] [] p outs fault) v new
port-heard reads s v p link at packet stood said more fault outs heard g new given before again fault_is told leave
    links count same_clients same_client_ports same_orders =
    let e : Event = PortPacket p link at packet in
    let b : Batch = batch_of 0 [] [] p outs fault in
    let c : PortCall = OnPacket packet at in
    let ms = again.messages in
    let a : PortAnswer = port_answer s p (v.port_calls p) c in
    let lines : outs ≡ to_port (v.port_link p) (port_outs s p (v.port_calls p) (c ∷ sends at ms)) =
    port-told-with (v.port_link p) outs said more a.outs
    (port_outs s p (c ∷ v.port_calls p) (sends at ms)) told given.said_is
    (again.sent.outs_are ∙ ap (λ (calls : List PortCall). to_port (v.port_link p) (port_outs s p calls (sends at ms)))
    (called-here p c v)) in
    let asked : messages b ≡ ms =
    ap (flat_map message_in) (lines ∙ ap (λ (l : Option ℕ). to_port l
    (port_outs s p (v.port_calls p) (c ∷ sends at ms))) (current-is (has_port s p) link (v.port_link p) given.on))
    ∙ reads s p link at (v.port_calls p) c ms refl in
    let came : came_up stood (port_state s p ((port_called p c v).port_calls p)) ≡ comes_up s e v =
    ap (λ (x : PortState). came_up x (port_state s p ((port_called p c v).port_calls p))) before
    ∙ ap (came_up (port_state s p (v.port_calls p))) (stands-after s p c v) in
    port-event s e v g new p Stays (c ∷ sends at ms) fault outs
    (ap (λ (w : Bool). if w then by_event s e b v else nothing) given.on
    ∙ ap (by_payload p at packet b a) given.payload_is
    ∙ ap (λ (m : List (List ℕ)). by_port p Stays (c ∷ sends at m) (fault_in a.after.state)) asked
    ∙ ap (by_port p Stays (c ∷ sends at ms)) (sym (fault_is ∙ ap fault_in (stands-after s p c v))))
    lines
    (subst (λ (w : Bool). AsksAgain (w && comes_up s e v) s p (w && delivers_message s e v) b v) (sym given.on)
    (subst (λ (up : Bool). AsksAgain up s p false b v) came
    (asks-due (came_up stood (port_state s p ((port_called p c v).port_calls p))) s p c v ms b asked again.due)))
    refl (c ∷ sends at ms) again.sent.parts leave links count same_clients same_client_ports same_orders

-- ---- what is known once the session heard a packet

pub after-packet : {S H : Type 0} (s : Settings) (v : Lists) (p link at : ℕ) (packet : Packet) (turn : PortTurn)
    (g new : Parts S H)
    → (has_port s p && is_the_number link (v.port_link p)) ≡ true
    → IsAnswer (port_answer s p (v.port_calls p) (OnPacket packet at)) turn
    → Ready s v g
    → PortsLeave s (called p (OnPacket packet at) v.port_calls) new.ports.lines.items
    → PortLinks v.port_link new.ports.lines.items
    → length new.ports.lines.items ≡ length g.ports.lines.items
    → new.clients ≡ g.clients → new.client_ports ≡ g.client_ports → new.orders ≡ g.orders
    → AfterPacket s p link at packet (if turn.is_delivered then Some packet.payload else None)
    (option_to_list turn.out) v new
unfolding port_answer
after-packet s v p link at packet turn g new on answer ready leave links count same_clients same_client_ports
    same_orders = record {
      on = on;
      payload_is = delivered-is (port_terms s p) (v.port_calls p) packet at turn answer;
      said_is = answer.outs;
      linked = ready.linked;
      few = ready.few;
      parts = ports-parts s p (OnPacket packet at ∷ []) v g new ready.parts leave links count same_clients same_client_ports
          same_orders;
    }
