-- The parts after calls of one client, of one port, and after a turn.
use Rattle.std.proofs.Common.{◌≡◌, ℕ, List, [], ◌∷◌, length, false, refl, sym, ◌∙◌, subst}
use Rattle.session_law.specs.Runs.{Timed}
use Rattle.soup_session.specs.Table.{PortCall}
use Rattle.soup_session.specs.declared.port_state.PortState.{PortState}
use Rattle.soup_session.specs.declared.port_state.PortState.TheVariants.{Down, LoggingIn, Up, Ended, Faulted}
use Rattle.soup_session.specs.States.{is_up}
use Rattle.gate_law.specs.Settings.{Settings}
use Rattle.gate_law.specs.Lists.{Lists, client_called_all, port_called_all, port_called}
use Rattle.gate_sessions.specs.Lines.{ClientsLeave, ClientLinks, PortsLeave, PortLinks, called_all}
use Rattle.gate_core.specs.declared.parts.Parts.{Parts}
use Rattle.gate_core.specs.State.{ArePartsOf}
use Rattle.gate_core.specs.Steps.{IsSent}
use Rattle.gate_law.specs.Events.{LinkOut}
use Rattle.gate_core.proofs.ClientEvents.{client-called-is}
use Rattle.gate_core.proofs.Told.{nothing-on-port}

pub clients-parts : {S H : Type 0} (s : Settings) (c : ℕ) (calls : List Timed) (v : Lists) (g new : Parts S H)
    → ArePartsOf s v g
    → ClientsLeave s (called_all c calls v.client_calls) new.clients.lines.items
    → ClientLinks v.client_link new.clients.lines.items → length new.clients.lines.items ≡ length g.clients.lines.items
    → new.ports ≡ g.ports → new.client_ports ≡ g.client_ports → new.orders ≡ g.orders
    → ArePartsOf s (client_called_all c calls v) new
clients-parts s c calls v g new parts leave links count same_ports same_client_ports same_orders =
    subst (λ (w : Lists). ArePartsOf s w new) (sym (client-called-is c calls v)) (record {
      clients = leave;
      client_links = links;
      ports = rw same_ports parts.ports;
      port_links = rw same_ports parts.port_links;
      orders = rw same_orders parts.orders;
      client_ports = rw same_client_ports parts.client_ports;
      client_count = count ∙ parts.client_count;
      port_count = rw same_ports parts.port_count;
      known = parts.known;
    })

pub port-called-is : (p : ℕ) (calls : List PortCall) (v : Lists)
    → port_called_all p calls v ≡ record v { port_calls = called_all p calls v.port_calls }
port-called-is p [] v = refl
port-called-is p (call ∷ calls) v = port-called-is p calls (port_called p call v)

pub ports-parts : {S H : Type 0} (s : Settings) (p : ℕ) (calls : List PortCall) (v : Lists) (g new : Parts S H)
    → ArePartsOf s v g
    → PortsLeave s (called_all p calls v.port_calls) new.ports.lines.items → PortLinks v.port_link new.ports.lines.items
    → length new.ports.lines.items ≡ length g.ports.lines.items
    → new.clients ≡ g.clients → new.client_ports ≡ g.client_ports → new.orders ≡ g.orders
    → ArePartsOf s (port_called_all p calls v) new
ports-parts s p calls v g new parts leave links count same_clients same_client_ports same_orders =
    subst (λ (w : Lists). ArePartsOf s w new) (sym (port-called-is p calls v)) (record {
      clients = rw same_clients parts.clients;
      client_links = rw same_clients parts.client_links;
      ports = leave;
      port_links = links;
      orders = rw same_orders parts.orders;
      client_ports = rw same_client_ports parts.client_ports;
      client_count = rw same_clients parts.client_count;
      port_count = count ∙ parts.port_count;
      known = parts.known;
    })

-- ---- where nothing is sent

pub not-up : (state : PortState) → (state ≡ Up → ⊥) → is_up state ≡ false
not-up Down other = refl
not-up LoggingIn other = refl
not-up Up other = absurd (other refl)
not-up Ended other = refl
not-up (Faulted n) other = refl

pub unsent : {S H : Type 0} (s : Settings) (p at : ℕ) (messages : List (List ℕ)) (outs : List LinkOut) (v : Lists)
    (g : Parts S H) → ArePartsOf s v g → messages ≡ [] → outs ≡ [] → IsSent s p at messages outs v g
unsent s p at messages outs v g parts none quiet =
    subst (λ (ms : List (List ℕ)). IsSent s p at ms outs v g) (sym none)
    (record { parts = parts; outs_are = quiet ∙ nothing-on-port (v.port_link p) })
