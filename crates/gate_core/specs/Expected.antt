-- What is asked of a core between events: the number that is expected of a client's next frame, a port's fault, and
-- whether a tick gives anything.
use Rattle.std.specs.Prelude.{ℕ, Bool, true, false, List, Option, Some, None, if◌then◌else◌}
use Rattle.session_law.specs.Runs.{Timed}
use Rattle.soup_session.specs.declared.port_fault.PortFault.{PortFault}
use Rattle.soup_session.specs.Table.{PortCall}
use Rattle.gate_law.specs.Settings.{Settings, has_client, has_port}
use Rattle.gate_law.specs.Sessions.{fault_in, port_state}
use Rattle.gate_law.specs.Events.{Event, ClientTick, PortTick}
use Rattle.gate_law.specs.Lists.{Lists}
use Rattle.gate_sessions.specs.Leaving.{expected_in, is_client_due, is_port_due, logon_fault_in}
use Rattle.fix_fields.specs.Field.{Message}
use Rattle.fix_session.specs.declared.logon_fault.LogonFault.{LogonFault}

-- of a client that the settings have, after these calls of its session (FIX 4.4 Volume 2, "Message Recovery")
abbrev pub next_expected : Settings → ℕ → List Timed → Option ℕ
next_expected s client calls = if has_client s client then Some (expected_in s client calls) else None

-- of a port that the settings have, after these calls of its session: why it is faulted, where it is (SoupBinTCP 3.00,
-- a fault ends its link)
abbrev pub fault_now : Settings → ℕ → List PortCall → Option PortFault
fault_now s p calls = if has_port s p then fault_in (port_state s p calls) else None

-- of a client, and of a port, that the settings have, after these calls of its session: a tick of this moment gives its
-- link something
abbrev pub client_due : Settings → ℕ → List Timed → ℕ → Bool
client_due s client calls at = if has_client s client then is_client_due s client calls at else false

abbrev pub port_due : Settings → ℕ → List PortCall → ℕ → Bool
port_due s p calls at = if has_port s p then is_port_due s p calls at else false

-- an event is no tick that gives nothing
abbrev pub event_due : Settings → Lists → Event → Bool
event_due s v (ClientTick client at) = client_due s client (v.client_calls client) at
event_due s v (PortTick p at) = port_due s p (v.port_calls p) at
event_due s v other = true

-- of a client that the settings have, after these calls of its session: why a message of a link that isn't logged on is
-- answered by the link's end alone (FIX 4.4 Volume 2, "Logon")
abbrev pub logon_fault_now : Settings → ℕ → List Timed → Message → Option LogonFault
logon_fault_now s client calls m = if has_client s client then logon_fault_in s client calls m else None
