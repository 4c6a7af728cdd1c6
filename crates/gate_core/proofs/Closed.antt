-- The parts once what a batch tells links has closed them.
use Rattle.std.proofs.Common.{◌≡◌, ◌+◌, ℕ, List, length, Option, sym, ◌∙◌}
use Rattle.soup_session.specs.declared.port_fault.PortFault.{PortFault}
use Rattle.fix_fields.specs.Field.{Message}
use Rattle.gate_law.specs.Settings.{Settings}
use Rattle.gate_law.specs.Events.{LinkOut}
use Rattle.gate_law.specs.Lists.{Lists}
use Rattle.gate_law.specs.After.{links_closed}
use Rattle.gate_sessions.specs.Lines.{ClientsLeave, ClientLinks, PortsLeave, PortLinks}
use Rattle.std.specs.Prelude.{is_some, not}
use Rattle.gate_core.specs.declared.parts.Parts.{Parts}
use Rattle.gate_sessions.specs.Links.{unlinked}
use Rattle.gate_core.specs.State.{ArePartsOf}
use Rattle.gate_events.specs.Batches.{batch_of}
use Rattle.gate_core.proofs.Told.{named-client, named-port}

pub closed-parts : {S H : Type 0} (s : Settings) (n p : ℕ) (reports : List Message) (client_out port_out : List LinkOut)
    (fault : Option PortFault) (x : Lists) (mid new : Parts S H)
    → ArePartsOf s x mid
    → ClientsLeave s x.client_calls new.clients.lines.items
    → ClientLinks (unlinked n client_out x.client_link) new.clients.lines.items
    → length new.clients.lines.items ≡ length mid.clients.lines.items
    → PortsLeave s x.port_calls new.ports.lines.items
    → PortLinks (unlinked p port_out x.port_link) new.ports.lines.items
    → length new.ports.lines.items ≡ length mid.ports.lines.items
    → new.client_ports ≡ mid.client_ports → new.orders ≡ mid.orders
    → ArePartsOf s (links_closed (batch_of n reports client_out p port_out fault) x) new
closed-parts s n p reports client_out port_out fault x mid new parts clients client_links client_count ports port_links
    port_count same_client_ports same_orders = record {
      clients = clients;
      client_links = λ i line at. client_links i line at ∙ sym (named-client n (i + 1) reports client_out x.client_link);
      ports = ports;
      port_links = λ i line at. port_links i line at
          ∙ sym (named-port p (i + 1) (not (is_some fault)) port_out x.port_link);
      orders = rw same_orders parts.orders;
      client_ports = rw same_client_ports parts.client_ports;
      client_count = client_count ∙ parts.client_count;
      port_count = port_count ∙ parts.port_count;
      known = parts.known;
    }
