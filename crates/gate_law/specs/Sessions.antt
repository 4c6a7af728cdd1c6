-- What the two sessions give to calls, after the calls so far: their own tables, by the numbers of clients and ports.
use Rattle.std.specs.Prelude.{ℕ, Bool, true, false, List, [], ◌∷◌, ◌++◌, map, drop, Option, Some, None, if◌then◌else◌}
use Rattle.std.specs.Prelude.{codes}
use Rattle.fix_stamp.specs.Stamp.{stamp_text}
use Rattle.soup_packets.specs.Spelling.{packet_bytes}
use Rattle.soup_session.specs.declared.port_fault.PortFault.{PortFault}
use Rattle.soup_session.specs.declared.port_state.PortState.{PortState}
use Rattle.soup_session.specs.declared.port_state.PortState.TheVariants.{Down, LoggingIn, Up, Ended, Faulted}
use Rattle.soup_session.specs.declared.port_turn.PortOut.{PortOut}
use Rattle.soup_session.specs.declared.port_turn.PortOut.TheVariants as packets
use Rattle.soup_session.specs.Faults.{fault_number}
use Rattle.soup_session.specs.Table as port
use Rattle.session_law.specs.declared.kind.Kind.{Kind}
use Rattle.session_law.specs.declared.kind.Kind.TheVariants as kinds
use Rattle.session_law.specs.declared.frame.Out.{Out}
use Rattle.session_law.specs.Session.{Given}
use Rattle.session_law.specs.Runs.{Call, OnLink, OnMessage, OnTick, Issue, Timed, issued_frame, step, state_after}
use Rattle.session_law.specs.Frames.{ToldLink, Bytes, Closed, told_of_out, frame_fields}
use Rattle.fix_fields.specs.Field.{Message, is}
use Rattle.order_law.specs.Verdicts as stands
use Rattle.order_law.specs.Verdicts.{Port}
use Rattle.gate_law.specs.Settings.{Settings, client_name, port_terms}
use Rattle.gate_law.specs.Events.{LinkOut, Write, Close}

-- ---- a client's session (FIX 4.4 Volume 2, "Session Protocol")

-- what a client's session gives to a call, after these, the newest first
unfoldable pub client_answer : Settings → ℕ → List Timed → Timed → Given
client_answer s client before call = step (state_after s.comp (client_name s client) before) call.0 call.1

-- the body that is issued: what a report or reject says behind its type (FIX 4.4 Volume 6, MsgType: 9 is a cancel
-- reject)
abbrev pub kind_of : Message → Kind
kind_of m = if is 35 (codes "9") m then kinds.CancelReject else kinds.Report

abbrev pub issue : ℕ → Message → Timed
issue at m = (at, Issue (kind_of m) (drop 1 m))

-- bodies that are issued one after another
abbrev pub issues : ℕ → List Message → List Timed
issues at bodies = map (issue at) bodies

-- what the session gives its link to calls in this order
abbrev pub client_outs : Settings → ℕ → List Timed → List Timed → List Out
client_outs s client before [] = []
client_outs s client before (call ∷ calls) = (client_answer s client before call).outs
    ++ client_outs s client (call ∷ before) calls

-- An issued body is reported as the fields of its frame, with the number that it takes and at the session's time, be
-- the frame written or not.
abbrev report_by : Settings → ℕ → List Timed → ℕ → Call → List Message
report_by s client before at (OnLink is_up) = []
report_by s client before at (OnMessage m) = []
report_by s client before at OnTick = []
report_by s client before at (Issue kind body) = frame_fields stamp_text s.comp (client_name s client)
    (issued_frame (state_after s.comp (client_name s client) before) at kind body) ∷ []

unfoldable pub report_issued : Settings → ℕ → List Timed → Timed → List Message
report_issued s client before call = report_by s client before call.0 call.1

abbrev pub client_reports : Settings → ℕ → List Timed → List Timed → List Message
client_reports s client before [] = []
client_reports s client before (call ∷ calls) = report_issued s client before call
    ++ client_reports s client (call ∷ before) calls

-- ---- a port's session (SoupBinTCP 3.00)

-- what a port's session gives to a call, after these, the newest first, and how these leave it
unfoldable pub port_answer : Settings → ℕ → List port.PortCall → port.PortCall → port.PortAnswer
port_answer s p before call = port.answer (port_terms s p) before call

unfoldable pub port_state : Settings → ℕ → List port.PortCall → PortState
port_state s p calls = (port.standing (port_terms s p) calls).state

-- messages that are sent one after another
abbrev pub sends : ℕ → List (List ℕ) → List port.PortCall
sends at messages = map (λ (m : List ℕ). port.Send m at) messages

-- any call but these
abbrev pub is_no_send : port.PortCall → Bool
is_no_send (port.Send message at) = false
is_no_send other = true

-- what the session gives its link to calls in this order
abbrev pub port_outs : Settings → ℕ → List port.PortCall → List port.PortCall → List PortOut
port_outs s p before [] = []
port_outs s p before (call ∷ calls) = (port_answer s p before call).outs ++ port_outs s p (call ∷ before) calls

-- how a port stands, as the order level has it: where no login was accepted, its messages wait
abbrev pub stands_of : PortState → Port
stands_of Down = stands.Down
stands_of LoggingIn = stands.Down
stands_of Up = stands.Up
stands_of Ended = stands.Ended
stands_of (Faulted fault) = stands.Faulted (fault_number fault)

-- the fault of a port that is faulted
abbrev pub fault_in : PortState → Option PortFault
fault_in (Faulted fault) = Some fault
fault_in other = None

-- ---- what goes to a link

abbrev pub to_link : ℕ → ToldLink → LinkOut
to_link link (Bytes bytes) = Write link bytes
to_link link Closed = Close link

-- nothing is written where there is no link
abbrev pub to_client : Settings → ℕ → Option ℕ → List Out → List LinkOut
to_client s client None outs = []
to_client s client (Some link) outs = map (λ (out : Out). to_link link
    (told_of_out s.comp (client_name s client) out)) outs

abbrev pub port_line : ℕ → PortOut → LinkOut
port_line link (packets.Packet packet) = Write link (packet_bytes packet)
port_line link packets.Close = Close link

abbrev pub to_port : Option ℕ → List PortOut → List LinkOut
to_port None outs = []
to_port (Some link) outs = map (port_line link) outs
