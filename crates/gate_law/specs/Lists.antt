-- The lists so far: of each client and port its current link and its session's calls, and the order level's turns.
-- Nothing else is kept.
use Rattle.std.specs.Prelude.{ℕ, ◌==◌, List, [], ◌∷◌, Option, Some, None, if◌then◌else◌}
use Rattle.soup_session.specs.Table as port
use Rattle.session_law.specs.Runs.{Timed}
use Rattle.order_law.specs.History as orders

pub record Lists : Type 0 where
  -- by the clients' numbers, the newest call first
  pub client_link : ℕ → Option ℕ
  pub client_calls : ℕ → List Timed
  -- by the ports'
  pub port_link : ℕ → Option ℕ
  pub port_calls : ℕ → List port.PortCall
  pub turns : orders.OrderHistory

-- before the first event
abbrev pub nothing_yet : Lists
nothing_yet = record {
  client_link = λ client. None;
  client_calls = λ client. [];
  port_link = λ p. None;
  port_calls = λ p. [];
  turns = [];
}

-- ---- one more

abbrev pub client_called : ℕ → Timed → Lists → Lists
client_called client call v = record v {
  client_calls = λ c. if c == client then call ∷ v.client_calls c
      else v.client_calls c;
}

abbrev pub port_called : ℕ → port.PortCall → Lists → Lists
port_called p call v = record v { port_calls = λ q. if q == p then call ∷ v.port_calls q else v.port_calls q }

abbrev pub client_linked : ℕ → Option ℕ → Lists → Lists
client_linked client link v = record v { client_link = λ c. if c == client then link else v.client_link c }

abbrev pub port_linked : ℕ → Option ℕ → Lists → Lists
port_linked p link v = record v { port_link = λ q. if q == p then link else v.port_link q }

abbrev pub turned : Option orders.OrderTurn → Lists → Lists
turned None v = v
turned (Some t) v = record v { turns = t ∷ v.turns }

-- ---- several, in this order

abbrev pub client_called_all : ℕ → List Timed → Lists → Lists
client_called_all client [] v = v
client_called_all client (call ∷ calls) v = client_called_all client calls (client_called client call v)

abbrev pub port_called_all : ℕ → List port.PortCall → Lists → Lists
port_called_all p [] v = v
port_called_all p (call ∷ calls) v = port_called_all p calls (port_called p call v)
