-- Sessions and links by their places: number i + 1 stands at place i.
use Rattle.std.specs.Prelude.{◌≡◌, ℕ, ◌+◌, ◌≤◌, ◌==◌, List, [], ◌∷◌, Option, Some, true, slice_get, if◌then◌else◌}
use Rattle.gate_law.specs.soup_session.Table as port
use Rattle.gate_law.specs.soup_session.declared.machine.Port.{Port}
use Rattle.gate_law.specs.soup_session.declared.port_turn.PortTurn.{PortTurn}
use Rattle.gate_law.specs.soup_session.Calls.{IsAnswer, IsUp, next_of}
use Rattle.gate_law.specs.session_law.Session.{State}
use Rattle.gate_law.specs.session_law.Runs.{Timed, OnMessage}
use Rattle.gate_law.specs.session_law.Formats.{application_of}
use Rattle.gate_law.specs.fix_fields.Field.{Message}
use Rattle.gate_law.specs.Settings.{Settings}
use Rattle.gate_law.specs.Sessions.{client_answer, port_answer}
use Rattle.fix_session.specs.declared.session.SessionTurn.{SessionTurn}
use Rattle.gate_sessions.specs.declared.client_line.ClientLine.{ClientLine}
use Rattle.gate_sessions.specs.declared.client_lines.Clients.{Clients}
use Rattle.gate_sessions.specs.declared.port_line.PortLine.{PortLine}
use Rattle.gate_sessions.specs.declared.port_lines.Ports.{Ports}
use Rattle.gate_sessions.specs.Leaving.{ClientLeaves, IsClientAnswer, PortLeaves}

-- each client's session is what its calls leave
abbrev pub ClientsLeave : Settings → (ℕ → List Timed) → List ClientLine → Type 0
ClientsLeave s calls lines = (i : ℕ) (line : ClientLine) → slice_get lines i ≡ Some line
    → ClientLeaves s (i + 1) (calls (i + 1)) line.session.session

abbrev pub ClientLinks : (ℕ → Option ℕ) → List ClientLine → Type 0
ClientLinks links lines = (i : ℕ) (line : ClientLine) → slice_get lines i ≡ Some line → line.link ≡ links (i + 1)

-- and each port's
abbrev pub PortsLeave : Settings → (ℕ → List port.PortCall) → List PortLine → Type 0
PortsLeave s calls lines = (i : ℕ) (line : PortLine) → slice_get lines i ≡ Some line
    → PortLeaves s (i + 1) (calls (i + 1)) line.session.port

abbrev pub PortLinks : (ℕ → Option ℕ) → List PortLine → Type 0
PortLinks links lines = (i : ℕ) (line : PortLine) → slice_get lines i ≡ Some line → line.link ≡ links (i + 1)

-- one call more, of one number alone
abbrev pub called : {X : Type 0} → ℕ → X → (ℕ → List X) → ℕ → List X
called n call calls m = if m == n then call ∷ calls m else calls m

-- several calls more, in this order, of one number alone
abbrev pub called_all : {X : Type 0} → ℕ → List X → (ℕ → List X) → ℕ → List X
called_all n [] calls = calls
called_all n (call ∷ more) calls = called_all n more (called n call calls)

-- another link, of one number alone
abbrev pub link_set : ℕ → Option ℕ → (ℕ → Option ℕ) → ℕ → Option ℕ
link_set n link links m = if m == n then link else links m

-- no port wants a number above this one next
abbrev pub NextWithin : ℕ → List PortLine → Type 0
NextWithin n lines = (i : ℕ) (line : PortLine) → slice_get lines i ≡ Some line → next_of line.session.port ≤ n

-- the port at this place is up
abbrev pub IsUpAt : ℕ → List PortLine → Type 0
IsUpAt place lines = (line : PortLine) → slice_get lines place ≡ Some line → IsUp line.session.port

-- how a client's line stands: its link, and what its session keeps
pub record ClientStands : Type 0 where
  pub link : Option ℕ
  pub session : State

abbrev pub client_now : ClientLine → ClientStands
client_now line = record { link = line.link; session = line.session.session }

-- how it stood when it was settled last: as now, where nothing came since
abbrev pub client_settled : ClientLine → ClientStands
client_settled line = if line.is_touched then record { link = line.settled_link; session = line.session.settled }
    else client_now line

-- each client's line was settled so
abbrev pub ClientsSettledAs : (ℕ → ClientStands) → List ClientLine → Type 0
ClientsSettledAs was lines = (i : ℕ) (line : ClientLine) → slice_get lines i ≡ Some line
    → client_settled line ≡ was (i + 1)

-- and a port's
pub record PortStands : Type 0 where
  pub link : Option ℕ
  pub port : Port

abbrev pub port_now : PortLine → PortStands
port_now line = record { link = line.link; port = line.session.port }

-- how it stood when it was settled last
abbrev pub port_settled : PortLine → PortStands
port_settled line = record { link = line.settled_link; port = line.session.settled }

-- each port's line was settled so
abbrev pub PortsSettledAs : (ℕ → PortStands) → List PortLine → Type 0
PortsSettledAs was lines = (i : ℕ) (line : PortLine) → slice_get lines i ≡ Some line → port_settled line ≡ was (i + 1)

-- ---- one call on the line at a place: what is known of all lines before is known of them after it

-- one call more of this client's session, and none of another's
abbrev pub ClientsCalled : ℕ → Timed → Clients → Clients → Type 0
ClientsCalled place call old new = (s : Settings) (calls : ℕ → List Timed) → ClientsLeave s calls old.lines.items
    → ClientsLeave s (called (place + 1) call calls) new.lines.items

-- no call of any
abbrev pub ClientsUncalled : Clients → Clients → Type 0
ClientsUncalled old new = (s : Settings) (calls : ℕ → List Timed) → ClientsLeave s calls old.lines.items
    → ClientsLeave s calls new.lines.items

-- the turn is what the table of this client's session has for the call
abbrev pub ClientAnswers : ℕ → Timed → Clients → SessionTurn → Type 0
ClientAnswers place call old turn = (s : Settings) (calls : ℕ → List Timed) → ClientsLeave s calls old.lines.items
    → IsClientAnswer s (place + 1) (client_answer s (place + 1) (calls (place + 1)) call) turn

-- where it delivers a message, that is what the frame is read as
abbrev pub ClientDelivers : ℕ → ℕ → Message → Clients → SessionTurn → Type 0
ClientDelivers place at frame old turn =
    (s : Settings) (calls : ℕ → List Timed) → ClientsLeave s calls old.lines.items → turn.is_delivered ≡ true
    → (client_answer s (place + 1) (calls (place + 1)) (at, OnMessage frame)).app ≡ Some (application_of frame)

-- this client has this link, and every other the link that it had
abbrev pub ClientsLinked : ℕ → Option ℕ → Clients → Clients → Type 0
ClientsLinked place link old new = (links : ℕ → Option ℕ) → ClientLinks links old.lines.items
    → ClientLinks (link_set (place + 1) link links) new.lines.items

-- each has the link that it had
abbrev pub ClientsStayLinked : Clients → Clients → Type 0
ClientsStayLinked old new =
    (links : ℕ → Option ℕ) → ClientLinks links old.lines.items → ClientLinks links new.lines.items

-- each is put back to what it was put back to before
abbrev pub ClientsStaySettled : Clients → Clients → Type 0
ClientsStaySettled old new =
    (was : ℕ → ClientStands) → ClientsSettledAs was old.lines.items → ClientsSettledAs was new.lines.items

-- likewise of ports
abbrev pub PortsCalled : ℕ → port.PortCall → Ports → Ports → Type 0
PortsCalled place call old new = (s : Settings) (calls : ℕ → List port.PortCall) → PortsLeave s calls old.lines.items
    → PortsLeave s (called (place + 1) call calls) new.lines.items

abbrev pub PortsUncalled : Ports → Ports → Type 0
PortsUncalled old new = (s : Settings) (calls : ℕ → List port.PortCall) → PortsLeave s calls old.lines.items
    → PortsLeave s calls new.lines.items

abbrev pub PortAnswers : ℕ → port.PortCall → Ports → PortTurn → Type 0
PortAnswers place call old turn = (s : Settings) (calls : ℕ → List port.PortCall) → PortsLeave s calls old.lines.items
    → IsAnswer (port_answer s (place + 1) (calls (place + 1)) call) turn

abbrev pub PortsLinked : ℕ → Option ℕ → Ports → Ports → Type 0
PortsLinked place link old new = (links : ℕ → Option ℕ) → PortLinks links old.lines.items
    → PortLinks (link_set (place + 1) link links) new.lines.items

abbrev pub PortsStayLinked : Ports → Ports → Type 0
PortsStayLinked old new = (links : ℕ → Option ℕ) → PortLinks links old.lines.items → PortLinks links new.lines.items

abbrev pub PortsStaySettled : Ports → Ports → Type 0
PortsStaySettled old new =
    (was : ℕ → PortStands) → PortsSettledAs was old.lines.items → PortsSettledAs was new.lines.items

-- the numbers that ports want next stay within each bound
abbrev pub PortsStayWithin : Ports → Ports → Type 0
PortsStayWithin old new = (n : ℕ) → NextWithin n old.lines.items → NextWithin n new.lines.items
