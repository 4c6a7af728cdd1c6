-- What calls leave of the two sessions, by the numbers of clients and ports.
use Rattle.std.specs.Prelude.{◌≡◌, ℕ, Bool, List, Option, length, map, nat_lt, is_some}
use Rattle.gate_law.specs.soup_session.declared.machine.Port.{Port}
use Rattle.gate_law.specs.soup_session.Table as port
use Rattle.gate_law.specs.soup_session.Calls as ports
use Rattle.gate_law.specs.session_law.Session.{State, Given}
use Rattle.gate_law.specs.fix_fields.Field.{Message}
use Rattle.gate_law.specs.session_law.Expected.{expected}
use Rattle.gate_law.specs.session_law.Runs.{Timed, OnTick, state_after, turns_after}
use Rattle.gate_law.specs.session_law.Frames.{told_of_out}
use Rattle.fix_session.specs.session_writing.Written.{told_bytes}
use Rattle.fix_session.specs.declared.session.SessionTurn.{SessionTurn}
use Rattle.fix_session.specs.Issues.{call_of_body}
use Rattle.fix_session.specs.LogonFaults.{logon_fault}
use Rattle.fix_session.specs.declared.logon_fault.LogonFault.{LogonFault}
use Rattle.fix_types.specs.declared.application.AppBody.{AppBody}
use Rattle.gate_law.specs.Settings.{Settings, client_name, port_terms}
use Rattle.gate_law.specs.Sessions.{client_answer, port_answer}

-- the calls, the newest first, leave the session of this client so
unfoldable pub ClientLeaves : Settings → ℕ → List Timed → State → Type 0
ClientLeaves s client calls session = session ≡ state_after s.comp (client_name s client) calls

-- the number that is expected of the client's next frame, by what the calls gave
abbrev pub expected_in : Settings → ℕ → List Timed → ℕ
expected_in s client calls = expected s.comp (client_name s client) (turns_after s.comp (client_name s client) calls)

-- A tick of this moment, after these calls, gives the client's link something: a row of its session's table holds. (FIX
-- 4.4 Volume 2, "Heartbeat", "Test Request".)
unfoldable pub is_client_due : Settings → ℕ → List Timed → ℕ → Bool
is_client_due s client calls at = nat_lt 0 (length (client_answer s client calls (at, OnTick)).outs)

-- likewise of a port (SoupBinTCP 3.00, "Heartbeats")
unfoldable pub is_port_due : Settings → ℕ → List port.PortCall → ℕ → Bool
is_port_due s p calls at = nat_lt 0 (length (port_answer s p calls (port.OnTick at)).outs)

-- Why a message of the client's link isn't answered, where the link isn't logged on. (FIX 4.4 Volume 2, "Logon".)
unfoldable pub logon_fault_in : Settings → ℕ → List Timed → Message → Option LogonFault
logon_fault_in s client calls m = logon_fault (state_after s.comp (client_name s client) calls) m

-- a turn of the session is what the table gives, in bytes
pub record IsClientAnswer (s : Settings) (client : ℕ) (g : Given) (turn : SessionTurn) : Type 0 where
  pub outs : map told_bytes turn.outs.items ≡ map (told_of_out s.comp (client_name s client)) g.outs
  pub app : turn.is_delivered ≡ is_some g.app

-- the calls, the newest first, leave the session of this port so
unfoldable pub PortLeaves : Settings → ℕ → List port.PortCall → Port → Type 0
PortLeaves s p calls session = ports.CallsLeave (port_terms s p) calls session

-- the call by which a body is issued
unfoldable pub issue_call : ℕ → AppBody → Timed
issue_call at body = (at, call_of_body body)
