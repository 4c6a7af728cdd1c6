-- An event of a port that leaves the clients and the order level as they were.
use Rattle.std.proofs.Common.{◌≡◌, ◌+◌, ℕ, not, List, [], length, Option, Some, None, refl, sym, ap, ◌∙◌, arith, subst}
use Rattle.std.specs.Prelude.{if◌then◌else◌, is_some}
use Rattle.soup_session.specs.declared.port_fault.PortFault.{PortFault}
use Rattle.soup_session.specs.Table.{PortCall}
use Rattle.gate_sessions.specs.order_law.Headline.{Headline}
use Rattle.gate_law.specs.Settings.{Settings, terms}
use Rattle.gate_law.specs.Events.{Event, LinkOut, Batch, is_for_port}
use Rattle.gate_law.specs.Lists.{Lists, port_called_all}
use Rattle.gate_law.specs.Outcome.{LinkMove, Stays, Comes, Goes, Refused, Outcome, outcome, of_port}
use Rattle.gate_law.specs.After.{lists_after, links_closed, with_outcome, port_moved}
use Rattle.gate_law.specs.Due.{to_client_of, to_port_of, reports_of, port_named}
use Rattle.gate_law.specs.Promises.{Asks}
use Rattle.gate_sessions.specs.Lines.{PortsLeave, PortLinks, PortsStaySettled, NextWithin, called_all}
use Rattle.gate_core.specs.declared.parts.Parts.{Parts}
use Rattle.gate_sessions.specs.Links.{unlinked}
use Rattle.gate_core.specs.State.{ArePartsOf}
use Rattle.gate_core.specs.Steps.{Grows, Stepped}
use Rattle.gate_events.specs.Batches.{batch_of}
use Rattle.gate_core.proofs.Told.{named-port}
use Rattle.gate_core.proofs.Parted.{port-called-is}
use Rattle.gate_core.proofs.ClientEvents.{moved_link, no-client-lines}

-- ---- the lists after it

port-moved-is : (p : ℕ) (move : LinkMove) (v : Lists)
    → port_moved p move v ≡ record v { port_link = moved_link p move v.port_link }
port-moved-is p Stays v = refl
port-moved-is p (Comes link) v = refl
port-moved-is p Goes v = refl
port-moved-is p (Refused link) v = refl

-- the lists with a port's calls and its link as it is then
abbrev with_port : ℕ → LinkMove → List PortCall → Lists → Lists
with_port p move calls v = record v {
  port_link = moved_link p move v.port_link;
  port_calls =
      called_all p calls v.port_calls;
}

-- the parts are what the lists with a port's calls leave, each list by itself
pub with-calls : {S H : Type 0} (s : Settings) (p : ℕ) (calls : List PortCall) (v : Lists) (g : Parts S H)
    → ArePartsOf s (port_called_all p calls v) g
    → ArePartsOf s (record v { port_calls = called_all p calls v.port_calls }) g
with-calls s p calls v g parts = subst (λ (w : Lists). ArePartsOf s w g) (port-called-is p calls v) parts

-- calls of a port, and a fault that is its session's
abbrev pub by_port : ℕ → LinkMove → List PortCall → Option PortFault → Outcome
by_port p move calls fault = record (of_port p move calls) { fault = fault }

with-port : (p : ℕ) (move : LinkMove) (calls : List PortCall) (fault : Option PortFault) (v : Lists)
    → with_outcome (by_port p move calls fault) v ≡ with_port p move calls v
with-port p move calls fault v =
    ap (port_called_all p calls) (port-moved-is p move v)
    ∙ port-called-is p calls (record v { port_link = moved_link p move v.port_link })

-- ---- the step

-- some of the port's calls were made earlier
pub port-event : {S H : Type 0} (s : Settings) (e : Event) (v : Lists) (g new : Parts S H) (p : ℕ) (move : LinkMove)
    (calls : List PortCall) (fault : Option PortFault) (outs : List LinkOut)
    → outcome s e (batch_of 0 [] [] p outs fault) v ≡ by_port p move calls fault
    → outs ≡ to_port_of s (by_port p move calls fault) v
    → Asks s e (batch_of 0 [] [] p outs fault) v
    → port_named s e ≡ p
    → (earlier : List PortCall) → ArePartsOf s (port_called_all p earlier v) g
    → PortsLeave s (called_all p calls v.port_calls) new.ports.lines.items
    → PortLinks (unlinked p outs (moved_link p move v.port_link)) new.ports.lines.items
    → length new.ports.lines.items ≡ length g.ports.lines.items
    → new.clients ≡ g.clients → new.client_ports ≡ g.client_ports → new.orders ≡ g.orders
    → Stepped s e (batch_of 0 [] [] p outs fault) v new
port-event s e v g new p move calls fault outs is lines asks named earlier parts leave links count same_clients
    same_client_ports same_orders =
    let b : Batch = batch_of 0 [] [] p outs fault in
    let before = with-calls s p earlier v g parts in
    let left : lists_after s e b v ≡ links_closed b (with_port p move calls v) =
    ap (λ (o : Outcome). links_closed b (with_outcome o v)) is ∙ ap (links_closed b) (with-port p move calls fault v) in
    record {
      gives = record {
        client_out = no-client-lines s (v.client_link 0) ∙ ap (λ (o : Outcome). to_client_of s o v) (sym is);
        reports = ap (λ (o : Outcome). reports_of s o v) (sym is);
        port_out = lines ∙ ap (λ (o : Outcome). to_port_of s o v) (sym is);
        fault = ap (λ (o : Outcome). o.fault) (sym is);
        client = refl;
        port = ap (λ (n : ℕ). if is_for_port b then Some n else None) (sym named);
      };
      asks = asks;
      orders = λ holds. subst (λ (w : Lists). Headline (terms s) w.turns) (sym left) holds;
      parts = subst (λ (w : Lists). ArePartsOf s w new) (sym left) (record {
        clients = rw same_clients before.clients;
        client_links = rw same_clients before.client_links;
        ports = leave;
        port_links = λ i line at. links i line at
            ∙ sym (named-port p (i + 1) (not (is_some fault)) outs (moved_link p move v.port_link));
        orders = rw same_orders before.orders;
        client_ports = rw same_client_ports before.client_ports;
        client_count = rw same_clients before.client_count;
        port_count = count ∙ before.port_count;
        known = before.known;
      });
    }

-- lines of ports that are as many, and want so many packets more
pub packets-grow : {S H : Type 0} (packets : ℕ) (old new : Parts S H)
    → length new.ports.lines.items ≡ length old.ports.lines.items
    → ((n : ℕ) → NextWithin n old.ports.lines.items → NextWithin (n + packets) new.ports.lines.items)
    → PortsStaySettled old.ports new.ports
    → new.clients ≡ old.clients → new.client_ports ≡ old.client_ports → new.orders ≡ old.orders
    → Grows 0 packets old new
packets-grow packets old new count next settled same_clients same_client_ports same_orders = record {
  clients = rw same_clients refl;
  ports = count;
  client_ports = rw same_client_ports refl;
  served = rw same_orders refl;
  issued = rw same_orders (omega arith);
  next = next;
  clients_settled = rw same_clients (λ was kept. kept);
  ports_settled = settled;
  orders_settled = rw same_orders refl;
}
