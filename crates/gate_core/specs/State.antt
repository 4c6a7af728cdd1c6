-- What callers see of the core's parts, and when they are what the lists say.
use Rattle.std.specs.Prelude.{◌≡◌, ℕ, ◌+◌, ◌*◌, ◌≤◌, true, List, length, map, Some, slice_get, is_some}
use Rattle.soup_session.specs.States.{is_open}
use Rattle.soup_session.specs.Calls.{next_of}
use Rattle.gate_sessions.specs.order_law.History as orders
use Rattle.order_core.specs.State as core
use Rattle.order_core.specs.State.{IsAfterTurns}
use Rattle.order_core.specs.LedgerState as ledger
use Rattle.gate_law.specs.Settings.{Settings, has_client, terms, port_of}
use Rattle.gate_law.specs.Lists.{Lists}
use Rattle.gate_law.specs.Clients.{AreFrom}
use Rattle.gate_law.specs.Sessions.{port_state}
use Rattle.gate_core.specs.declared.parts.Parts.{Parts}
use Rattle.gate_sessions.specs.Leaving.{ClientLeaves, PortLeaves}
use Rattle.gate_sessions.specs.Lines.{ClientsLeave, ClientLinks, PortsLeave, PortLinks, NextWithin}
use Rattle.gate_sessions.specs.Lines.{ClientStands, PortStands, client_now, client_settled, port_now, port_settled}

-- each is the port of the client at its place
abbrev pub ArePortsOf : Settings → List ℕ → Type 0
ArePortsOf s ports = (i : ℕ) (p : ℕ) → slice_get ports i ≡ Some p → p ≡ port_of s (i + 1)

-- each message came from a client that the settings have
abbrev pub AreFromClients : Settings → orders.OrderHistory → Type 0
AreFromClients s h = AreFrom (λ (client : ℕ). has_client s client ≡ true) h

-- the parts are what these lists leave
pub record ArePartsOf {S H : Type 0} (s : Settings) (v : Lists) (g : Parts S H) : Type 0 where
  pub clients : ClientsLeave s v.client_calls g.clients.lines.items
  pub client_links : ClientLinks v.client_link g.clients.lines.items
  pub ports : PortsLeave s v.port_calls g.ports.lines.items
  pub port_links : PortLinks v.port_link g.ports.lines.items
  pub orders : IsAfterTurns (terms s) v.turns g.orders
  pub client_ports : ArePortsOf s g.client_ports.items
  pub client_count : length g.clients.lines.items ≡ length s.clients
  pub port_count : length g.ports.lines.items ≡ length s.ports
  pub known : AreFromClients s v.turns

-- each client's port is one of so many
abbrev pub AreAmong : ℕ → List ℕ → Type 0
AreAmong count ports = (i : ℕ) (p : ℕ) → slice_get ports i ≡ Some p → (1 ≤ p) × (p ≤ count)

-- Whatever the lists are: each client has its port and its terms.
pub record IsShaped {S H : Type 0} (g : Parts S H) : Type 0 where
  pub client_ports : length g.client_ports.items ≡ length g.clients.lines.items
  pub among : AreAmong (length g.ports.lines.items) g.client_ports.items
  pub served : core.core_clients g.orders ≡ length g.clients.lines.items
  pub few_clients : length g.clients.lines.items ≤ 64
  pub few_ports : length g.ports.lines.items ≤ 16

-- There are numbers for far more events than are ever stepped: after so many of them, so many numbers were given at
-- most.
pub record HasNumbers {S H : Type 0} (events : ℕ) (g : Parts S H) : Type 0 where
  pub issued : core.core_numbers g.orders ≤ 3 * events
  pub next : NextWithin (events + 1) g.ports.lines.items

-- a port's session is open just while a link of the port is current
abbrev pub AreOpenOnLinks : Settings → Lists → Type 0
AreOpenOnLinks s v = (p : ℕ) → is_open (port_state s p (v.port_calls p)) ≡ is_some (v.port_link p)

-- ---- what is kept of the parts, and put back

-- how they stand: each client's line, each port's, the port of each client, the order level
pub record PartsStand : Type 0 where
  pub clients : List ClientStands
  pub ports : List PortStands
  pub client_ports : List ℕ
  pub orders : core.CoreParts

-- now
abbrev pub parts_now : {S H : Type 0} → Parts S H → PartsStand
parts_now g = record {
  clients = map client_now g.clients.lines.items;
  ports = map port_now g.ports.lines.items;
  client_ports = g.client_ports.items;
  orders = core.core_now g.orders;
}

-- and when they were settled last: no client ever gets another port
abbrev pub parts_settled : {S H : Type 0} → Parts S H → PartsStand
parts_settled g = record {
  clients = map client_settled g.clients.lines.items;
  ports = map port_settled g.ports.lines.items;
  client_ports = g.client_ports.items;
  orders = g.orders.settled;
}

-- they stand as these lists leave them
pub record StandAfter (s : Settings) (v : Lists) (p : PartsStand) : Type 0 where
  pub clients : (i : ℕ) (c : ClientStands) → slice_get p.clients i ≡ Some c
      → ClientLeaves s (i + 1) (v.client_calls (i + 1)) c.session
  pub client_links : (i : ℕ) (c : ClientStands) → slice_get p.clients i ≡ Some c → c.link ≡ v.client_link (i + 1)
  pub ports : (i : ℕ) (c : PortStands) → slice_get p.ports i ≡ Some c
      → PortLeaves s (i + 1) (v.port_calls (i + 1)) c.port
  pub port_links : (i : ℕ) (c : PortStands) → slice_get p.ports i ≡ Some c → c.link ≡ v.port_link (i + 1)
  pub orders : IsAfterTurns (terms s) v.turns (core.core_of p.orders)
  pub client_ports : ArePortsOf s p.client_ports
  pub client_count : length p.clients ≡ length s.clients
  pub port_count : length p.ports ≡ length s.ports
  pub known : AreFromClients s v.turns

-- after so many events they have what every step needs, whatever the lists are
pub record AreSound (events : ℕ) (p : PartsStand) : Type 0 where
  pub client_ports : length p.client_ports ≡ length p.clients
  pub among : AreAmong (length p.ports) p.client_ports
  pub served : ledger.clients p.orders.table ≡ length p.clients
  pub few_clients : length p.clients ≤ 64
  pub few_ports : length p.ports ≤ 16
  pub issued : ledger.ledger_numbers p.orders.table ≤ 3 * events
  pub next : (i : ℕ) (c : PortStands) → slice_get p.ports i ≡ Some c → next_of c.port ≤ events + 1
