-- How clients and ports stand after a history, and when a board says so.
use Rattle.std.specs.Prelude.{◌≡◌, ℕ, ◌+◌, List, Some, slice_get, length}
use Rattle.fix_fields.specs.Field.{Message}
use Rattle.session_law.specs.Runs.{Timed, state_after}
use Rattle.session_law.specs.Session.{State, next_out}
use Rattle.session_law.specs.Table.{is_logged_on}
use Rattle.soup_session.specs.Calls.{next_of}
use Rattle.soup_session.specs.Table.{standing, wanted}
use Rattle.gate_law.specs.Settings.{Settings, client_name, port_terms}
use Rattle.gate_law.specs.Events.{History}
use Rattle.gate_law.specs.Lists.{Lists}
use Rattle.gate_law.specs.After.{lists}
use Rattle.gate_law.specs.Sessions.{port_state}
use Rattle.gate_sessions.specs.declared.client_line.ClientLine.{ClientLine}
use Rattle.gate_sessions.specs.declared.port_line.PortLine.{PortLine}
use Rattle.gate_sessions.specs.order_law.History.{OrderHistory, issued}
use Rattle.gate_sessions.specs.order_law.Verdicts.{open_orders}
use Rattle.order_core.specs.Executed.{executed_shares, executed_value}
use Rattle.gate_core.specs.Core.{stepped}
use Rattle.gate_core.specs.declared.board.Board.{Board}
use Rattle.gate_core.specs.declared.board.ClientRow.{ClientRow}
use Rattle.gate_core.specs.declared.board.PortRow.{PortRow}

-- how a client's session stands after these calls, the newest first (FIX 4.4 Volume 2, "Session Protocol")
abbrev pub session_after : Settings → ℕ → List Timed → State
session_after s client calls = state_after s.comp (client_name s client) calls

-- A client of this number: its current link, whether its session is logged on, the numbers that come next, and of its
-- orders, as its own reports have them, how many aren't closed, the shares that were executed and their value (FIX 4.4
-- Volume 4, "Execution Report").
pub record IsClientRow (s : Settings) (v : Lists) (client : ℕ) (row : ClientRow) : Type 0 where
  pub link : row.link ≡ v.client_link client
  pub on : row.is_logged_on ≡ is_logged_on (session_after s client (v.client_calls client)).phase
  pub incoming : row.next_in ≡ (session_after s client (v.client_calls client)).expected
  pub outgoing : row.next_out ≡ next_out (session_after s client (v.client_calls client))
  pub orders : row.open_orders ≡ open_orders (issued client v.turns)
  pub executed : row.executed_shares ≡ executed_shares (issued client v.turns)
  pub value : row.value ≡ executed_value (issued client v.turns)

-- A port of this number: its current link, how its session stands, and the number of the next payload (SoupBinTCP 3.00,
-- "Sequenced Data Packet").
pub record IsPortRow (s : Settings) (v : Lists) (p : ℕ) (row : PortRow) : Type 0 where
  pub link : row.link ≡ v.port_link p
  pub state : row.state ≡ port_state s p (v.port_calls p)
  pub next : row.next ≡ wanted (standing (port_terms s p) (v.port_calls p))

-- number i + 1 stands at place i
abbrev pub AreClientRows : Settings → Lists → List ClientRow → Type 0
AreClientRows s v rows =
    (i : ℕ) (row : ClientRow) → slice_get rows i ≡ Some row → IsClientRow s v (i + 1) row

abbrev pub ArePortRows : Settings → Lists → List PortRow → Type 0
ArePortRows s v rows = (i : ℕ) (row : PortRow) → slice_get rows i ≡ Some row → IsPortRow s v (i + 1) row

-- A board of a history: a row for each client and each port of the settings, all of them after the same events.
pub record IsBoard (s : Settings) (h : History) (b : Board) : Type 0 where
  pub events : b.events ≡ stepped h
  pub client_count : length b.clients.items ≡ length s.clients
  pub clients : AreClientRows s (lists s h) b.clients.items
  pub port_count : length b.ports.items ≡ length s.ports
  pub ports : ArePortRows s (lists s h) b.ports.items

-- ---- as the code has them

-- the row of a client's line, where its orders sent it these
abbrev pub client_row_of : List Message → ClientLine → ClientRow
client_row_of sent line = record {
  link = line.link;
  is_logged_on = is_logged_on line.session.session.phase;
  next_in = line.session.session.expected;
  next_out = next_out line.session.session;
  open_orders = open_orders sent;
  executed_shares = executed_shares sent;
  value = executed_value sent;
}

-- the rows of these lines after these turns: number i + 1 stands at place i
abbrev pub AreRowsOf : OrderHistory → List ClientLine → List ClientRow → Type 0
AreRowsOf turns lines rows =
    (i : ℕ) (row : ClientRow) → slice_get rows i ≡ Some row
    → (line : ClientLine) × (slice_get lines i ≡ Some line) × (row ≡ client_row_of (issued (i + 1) turns) line)

-- and of a port's
abbrev pub port_row_of : PortLine → PortRow
port_row_of line = record {
  link = line.link;
  state = line.session.port.state;
  next = next_of line.session.port;
}
