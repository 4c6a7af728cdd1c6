-- A step that changes the lines of ports alone, and leaves the next numbers.
use Rattle.std.proofs.Common.{◌≡◌, ◌+◌, ◌≤◌, ℕ, length, refl, sym, ◌∙◌, subst, arith}
use Rattle.gate_sessions.specs.Lines.{ClientsStaySettled, NextWithin, PortsStaySettled}
use Rattle.gate_core.specs.declared.parts.Parts.{Parts}
use Rattle.gate_core.specs.Steps.{Grows}

pub ports-grow : {S H : Type 0} (old new : Parts S H) → length new.ports.lines.items ≡ length old.ports.lines.items
    → ((n : ℕ) → NextWithin n old.ports.lines.items → NextWithin n new.ports.lines.items)
    → PortsStaySettled old.ports new.ports
    → new.clients ≡ old.clients → new.client_ports ≡ old.client_ports → new.orders ≡ old.orders → Grows 0 0 old new
ports-grow old new count next settled same_clients same_client_ports same_orders = record {
  clients = rw same_clients refl;
  ports = count;
  client_ports = rw same_client_ports refl;
  served = rw same_orders refl;
  issued = rw same_orders (omega arith);
  next = λ n within. (let same : n + 0 ≡ n = omega arith in
      subst (λ (k : ℕ). NextWithin k new.ports.lines.items) (sym same) (next n within));
  clients_settled = rw same_clients (λ was kept. kept);
  ports_settled = settled;
  orders_settled = rw same_orders refl;
}

-- one step and then another
pub grows-then : {S H : Type 0} (a b c d : ℕ) (x y z : Parts S H) → Grows a b x y → Grows c d y z
    → Grows (a + c) (b + d) x z
grows-then a b c d x y z first second = record {
  clients = second.clients ∙ first.clients;
  ports = second.ports ∙ first.ports;
  client_ports = second.client_ports ∙ first.client_ports;
  served = second.served ∙ first.served;
  issued = omega (arith, first.issued, second.issued);
  next = λ n within. (let same : (n + b) + d ≡ n + (b + d) = omega arith in
      subst (λ (k : ℕ). NextWithin k z.ports.lines.items) same (second.next (n + b) (first.next n within)));
  clients_settled = λ was kept. second.clients_settled was (first.clients_settled was kept);
  ports_settled = λ was kept. second.ports_settled was (first.ports_settled was kept);
  orders_settled = second.orders_settled ∙ first.orders_settled;
}

-- lines of both sides that keep the next numbers
pub lines-grow : {S H : Type 0} (old new : Parts S H) → length new.clients.lines.items ≡ length old.clients.lines.items
    → length new.ports.lines.items ≡ length old.ports.lines.items
    → ((n : ℕ) → NextWithin n old.ports.lines.items → NextWithin n new.ports.lines.items)
    → ClientsStaySettled old.clients new.clients → PortsStaySettled old.ports new.ports
    → new.client_ports ≡ old.client_ports → new.orders ≡ old.orders → Grows 0 0 old new
lines-grow old new clients ports next clients_settled ports_settled same_client_ports same_orders = record {
  clients = clients;
  ports = ports;
  client_ports = rw same_client_ports refl;
  served = rw same_orders refl;
  issued = rw same_orders (omega arith);
  next = λ n within. (let same : n + 0 ≡ n = omega arith in
      subst (λ (k : ℕ). NextWithin k new.ports.lines.items) (sym same) (next n within));
  clients_settled = clients_settled;
  ports_settled = ports_settled;
  orders_settled = rw same_orders refl;
}

-- what gives few numbers gives no more than many
pub grows-within : {S H : Type 0} (few many packets : ℕ) (old new : Parts S H) → few ≤ many → Grows few packets old new
    → Grows many packets old new
grows-within few many packets old new most grows = record {
  clients = grows.clients;
  ports = grows.ports;
  client_ports = grows.client_ports;
  served = grows.served;
  issued = omega (arith, grows.issued, most);
  next = grows.next;
  clients_settled = grows.clients_settled;
  ports_settled = grows.ports_settled;
  orders_settled = grows.orders_settled;
}

-- no event gives more numbers than three, or brings more than one packet
pub grows-most : {S H : Type 0} (numbers packets : ℕ) (old new : Parts S H) → numbers ≤ 3 → packets ≤ 1
    → Grows numbers packets old new → Grows 3 1 old new
grows-most numbers packets old new few one grows = record {
  clients = grows.clients;
  ports = grows.ports;
  client_ports = grows.client_ports;
  served = grows.served;
  issued = omega (arith, grows.issued, few);
  next = λ n within i line at. omega (arith, grows.next n within i line at, one);
  clients_settled = grows.clients_settled;
  ports_settled = grows.ports_settled;
  orders_settled = grows.orders_settled;
}

-- a step that changes the lines of clients alone
pub clients-grow : {S H : Type 0} (old new : Parts S H)
    → length new.clients.lines.items ≡ length old.clients.lines.items → ClientsStaySettled old.clients new.clients
    → new.ports ≡ old.ports → new.client_ports ≡ old.client_ports → new.orders ≡ old.orders → Grows 0 0 old new
clients-grow old new count settled same_ports same_client_ports same_orders =
    lines-grow old new count (rw same_ports refl) (rw same_ports (λ n within. within)) settled
    (rw same_ports (λ was kept. kept)) same_client_ports same_orders
