-- Links of ports that come and go, and ticks.
use Rattle.std.proofs.Common.{◌≡◌, ◌+◌, ◌==◌, ℕ, true, List, [], ◌∷◌, ◌++◌, length, Option, Some, None, refl, sym, ap}
use Rattle.std.proofs.Common.{◌∙◌, eq-eqb}
use Rattle.std.specs.Prelude.{◌&&◌}
use Rattle.std.specs.List.{flat_map}
use Rattle.soup_session.specs.declared.port_turn.PortOut.{PortOut}
use Rattle.soup_session.specs.Table as calls
use Rattle.soup_session.specs.Table.{PortCall}
use Rattle.gate_law.specs.Settings.{Settings, has_port}
use Rattle.gate_law.specs.Events.{PortUp, PortGone, PortTick, LinkOut, Close, empty, is_the_number}
use Rattle.gate_law.specs.Lists.{Lists}
use Rattle.gate_law.specs.Sessions.{is_no_send, port_answer, port_outs, sends, to_port}
use Rattle.gate_law.specs.Outcome.{Stays, Comes, Goes, Refused, message_in}
use Rattle.gate_law.specs.After.{unless_closed}
use Rattle.gate_sessions.specs.declared.port_line.PortLine.{PortLine}
use Rattle.gate_sessions.specs.Lines.{PortsLeave, PortLinks, called, link_set}
use Rattle.gate_core.specs.declared.parts.Parts.{Parts}
use Rattle.gate_sessions.specs.Links.{unlinked}
use Rattle.gate_core.specs.Steps.{Ready, Stepped}
use Rattle.gate_events.specs.Batches.{batch_of}
use Rattle.gate_core.proofs.Told.{same}
use Rattle.gate_core.proofs.ClientEvents.{nothing-done, asks-nothing, no-port-lines}
use Rattle.gate_core.proofs.ClientLinks.{not-equal, only-one}
use Rattle.gate_core.proofs.PortEvents.{port-event}

-- a link that is told nothing stays
pub port-untold : (n : ℕ) (links : ℕ → Option ℕ) (lines : List PortLine) → PortLinks links lines
    → PortLinks (unlinked n [] links) lines
port-untold n links lines are i line at = are i line at ∙ sym (same (i + 1 == n) (links (i + 1)))

-- what is read off the packets that a session writes is what it was sent, behind any other call
abbrev pub ReadsSent : Type 0
ReadsSent = (s : Settings) (p link at : ℕ) (before : List PortCall) (c : PortCall) (ms : List (List ℕ))
    → is_no_send c ≡ true
    → flat_map message_in (to_port (Some link) (port_outs s p before (c ∷ sends at ms))) ≡ ms

-- nothing is read off what a session says to a call that sends nothing
reads-nothing : ReadsSent → (s : Settings) (p : ℕ) (link : Option ℕ) (before : List PortCall) (c : PortCall)
    → is_no_send c ≡ true
    → flat_map message_in (to_port link ((port_answer s p before c).outs ++ [])) ≡ []
reads-nothing reads s p None before c none = refl
reads-nothing reads s p (Some link) before c none = reads s p link 0 before c [] none

quiet-going : (s : Settings) (p : ℕ) (before : List PortCall) → (port_answer s p before calls.OnGone).outs ≡ []
unfolding port_answer
quiet-going s p before = refl

-- ---- a port's link is gone

pub port-gone : {S H : Type 0} (s : Settings) (v : Lists) (g new : Parts S H) (p link at : ℕ)
    → (has_port s p && is_the_number link (v.port_link p)) ≡ true → Ready s v g
    → PortsLeave s (called p calls.OnGone v.port_calls) new.ports.lines.items
    → PortLinks (link_set p None v.port_link) new.ports.lines.items
    → length new.ports.lines.items ≡ length g.ports.lines.items
    → new.clients ≡ g.clients → new.client_ports ≡ g.client_ports → new.orders ≡ g.orders
    → Stepped s (PortGone p link at) empty v new
port-gone s v g new p link at on ready leave links count same_clients same_client_ports same_orders =
    port-event s (PortGone p link at) v g new p Goes (calls.OnGone ∷ []) None [] (rw on refl)
    (no-port-lines (link_set p None v.port_link p)
    ∙ ap (λ (outs : List PortOut). to_port (link_set p None v.port_link p) (outs ++ []))
    (sym (quiet-going s p (v.port_calls p))))
    (asks-nothing s (PortGone p link at) empty v refl refl)
    refl [] ready.parts leave (port-untold p (link_set p None v.port_link) new.ports.lines.items links) count
    same_clients same_client_ports same_orders

-- ---- a port's link is up

pub port-comes : {S H : Type 0} (s : Settings) (v : Lists) (g new : Parts S H) (p link at : ℕ) (outs : List LinkOut)
    → has_port s p ≡ true → v.port_link p ≡ None → Ready s v g → ReadsSent
    → outs ≡ to_port (link_set p (Some link) v.port_link p)
    ((port_answer s p (v.port_calls p) (calls.OnUp at)).outs ++ [])
    → PortsLeave s (called p (calls.OnUp at) v.port_calls) new.ports.lines.items
    → PortLinks (unlinked p outs (link_set p (Some link) v.port_link)) new.ports.lines.items
    → length new.ports.lines.items ≡ length g.ports.lines.items
    → new.clients ≡ g.clients → new.client_ports ≡ g.client_ports → new.orders ≡ g.orders
    → Stepped s (PortUp p link at) (batch_of 0 [] [] p outs None) v new
port-comes s v g new p link at outs has none ready reads lines leave links count same_clients same_client_ports
    same_orders =
    port-event s (PortUp p link at) v g new p (Comes link) (calls.OnUp at ∷ []) None outs (rw (has, none) refl) lines
    (asks-nothing s (PortUp p link at) (batch_of 0 [] [] p outs None) v refl
    (ap (flat_map message_in) lines ∙ reads-nothing reads s p (link_set p (Some link) v.port_link p) (v.port_calls p)
    (calls.OnUp at) refl))
    refl [] ready.parts leave links count same_clients same_client_ports same_orders

-- the current link's own number again
pub port-again : {S H : Type 0} (s : Settings) (v : Lists) (g : Parts S H) (p link at current : ℕ) → has_port s p ≡ true
    → v.port_link p ≡ Some current → current ≡ link → Ready s v g
    → Stepped s (PortUp p link at) empty v g
port-again s v g p link at current has is alike ready =
    nothing-done s (PortUp p link at) v g (rw (has, is, eq-eqb current link alike) refl)
    (asks-nothing s (PortUp p link at) empty v refl refl) ready

-- another link
pub port-refused : {S H : Type 0} (s : Settings) (v : Lists) (g : Parts S H) (p link at current : ℕ)
    → has_port s p ≡ true → v.port_link p ≡ Some current → (current ≡ link → ⊥) → Ready s v g
    → Stepped s (PortUp p link at) (batch_of 0 [] [] p (Close link ∷ []) None) v g
port-refused s v g p link at current has is other ready =
    port-event s (PortUp p link at) v g g p (Refused link) [] None (Close link ∷ [])
    (rw (has, is, not-equal current link other) refl)
    (ap (λ (outs : List LinkOut). Close link ∷ outs) (no-port-lines (v.port_link p)))
    (asks-nothing s (PortUp p link at) (batch_of 0 [] [] p (Close link ∷ []) None) v refl refl)
    refl [] ready.parts ready.parts.ports
    (λ i line at_place. ready.parts.port_links i line at_place ∙ sym (stays (i + 1))) refl refl refl refl
  where
    -- the link that is closed isn't the current one
    open_still : unless_closed (Close link ∷ []) (v.port_link p) ≡ v.port_link p
    open_still = rw (is, not-equal current link other) refl

    stays : (m : ℕ) → unlinked p (Close link ∷ []) v.port_link m ≡ v.port_link m
    stays m = only-one p m (Close link ∷ []) v.port_link open_still

-- ---- time passes

pub port-tick : {S H : Type 0} (s : Settings) (v : Lists) (g new : Parts S H) (p at : ℕ) (outs : List LinkOut)
    → has_port s p ≡ true → Ready s v g → ReadsSent
    → outs ≡ to_port (v.port_link p) ((port_answer s p (v.port_calls p) (calls.OnTick at)).outs ++ [])
    → PortsLeave s (called p (calls.OnTick at) v.port_calls) new.ports.lines.items
    → PortLinks (unlinked p outs v.port_link) new.ports.lines.items
    → length new.ports.lines.items ≡ length g.ports.lines.items
    → new.clients ≡ g.clients → new.client_ports ≡ g.client_ports → new.orders ≡ g.orders
    → Stepped s (PortTick p at) (batch_of 0 [] [] p outs None) v new
port-tick s v g new p at outs has ready reads lines leave links count same_clients same_client_ports same_orders =
    port-event s (PortTick p at) v g new p Stays (calls.OnTick at ∷ []) None outs (rw has refl) lines
    (asks-nothing s (PortTick p at) (batch_of 0 [] [] p outs None) v refl
    (ap (flat_map message_in) lines ∙ reads-nothing reads s p (v.port_link p) (v.port_calls p) (calls.OnTick at) refl))
    refl [] ready.parts leave links count same_clients same_client_ports same_orders
