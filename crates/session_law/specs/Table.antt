-- The session's table: of each message and tick the first row that holds.
-- (FIX 4.4 Volume 2, "Session Protocol": Logon, ResendRequest, SequenceReset, Reject, Logout, Heartbeat, TestRequest;
-- the limits and what is thrown away are this gateway's own.)
use Rattle.std.specs.Prelude.{ℕ, ◌+◌, ◌*◌, ◌==◌, Bool, true, false, not, ◌&&◌, ◌||◌, List, [], ◌∷◌, ◌++◌, length}
use Rattle.std.specs.Prelude.{nat_le, nat_lt, Option, Some, None, is_none, is_some, if◌then◌else◌, codes, decimal}
use Rattle.std.specs.Prelude.{unwrap_or}
use Rattle.std.specs.List.{list_all}
use Rattle.std.specs.Char.{is_ascii_digit, is_ascii_alphabetic}
use Rattle.fix_framing.specs.fix_fields.declared.session_refusal.SessionRefusal.{SessionRefusal}
use Rattle.fix_framing.specs.fix_fields.Field.{Message, field, has, text, is}
use Rattle.fix_framing.specs.fix_fields.Fault.{first_fault, refusal}
use Rattle.session_law.specs.Messages.{number_as_field, short_number}
use Rattle.session_law.specs.Formats.{application_refusal}
use Rattle.session_law.specs.declared.phase.Phase.{Phase}
use Rattle.session_law.specs.declared.phase.Phase.TheVariants.{Down, AwaitingLogon, LoggedOn}
use Rattle.session_law.specs.declared.phase.Logged.{Logged}
use Rattle.session_law.specs.Session.{State, Logon, Answer, Act, Grow, Expect, Say, Test, AskAgain, SayUnsupported}
use Rattle.session_law.specs.Session.{Range, Deliver, Shut, Heartbeat, Reject, Logout}

-- ---- rows

pub record SessionRow : Type 0 where
  pub holds : Bool
  pub answer : Answer

abbrev pub acts : List Act → Answer
acts done = record { logon = None; resends = None; acts = done }

abbrev pub row : Bool → List Act → SessionRow
row holds done = record { holds = holds; answer = acts done }

abbrev pub row_of : Bool → Answer → SessionRow
row_of holds answer = record { holds = holds; answer = answer }

-- the first row that holds
abbrev pub answer_by : List SessionRow → Answer
answer_by [] = acts []
answer_by (r ∷ rows) = if r.holds then r.answer else answer_by rows

-- ---- what rows read

-- the number of a message, 0 where it is missing or no number
abbrev pub message_number : Message → ℕ
message_number m = unwrap_or (short_number 34 m) 0

abbrev pub is_type : List ℕ → Message → Bool
is_type type m = is 35 type m

abbrev pub is_from_client : State → Message → Bool
is_from_client s m = is 49 s.client m && is 56 s.gate m

-- SequenceReset without GapFill
abbrev pub is_plain_reset : Message → Bool
is_plain_reset m = is_type (codes "4") m && not (is 123 (codes "Y") m)

-- a number that is there and at least so much
abbrev pub is_from : ℕ → Option ℕ → Bool
is_from least None = false
is_from least (Some n) = nat_le least n

-- ---- what rows write

-- Reject, with the number of what it rejects, the tag, the type where there is one, and the reason
abbrev pub reject_body : Message → SessionRefusal → Message
reject_body m r =
    number_as_field 45 (message_number m)
    ∷ number_as_field 371 r.tag
    ∷ (if length (text 35 m) == 0 then [] else field 372 (text 35 m) ∷ [])
    ++ number_as_field 373 r.reason
    ∷ []

abbrev pub reject_act : Message → ℕ → ℕ → Act
reject_act m tag reason = Say Reject (reject_body m (refusal tag reason))

abbrev pub log_out : List ℕ → List Act
log_out why = Say Logout (field 58 why ∷ []) ∷ Shut ∷ []

abbrev pub log_out_silently : List Act
log_out_silently = Say Logout [] ∷ Shut ∷ []

abbrev pub too_low : ℕ → ℕ → List Act
too_low expected received = log_out (codes "MsgSeqNum too low, expecting " ++ decimal expected
    ++ codes " but received " ++ decimal received)

abbrev pub asked_number : Phase → ℕ
asked_number Down = 0
asked_number (AwaitingLogon since) = 0
asked_number (LoggedOn l) = l.asked

-- a ResendRequest from E on, unless one waits: until E is above the number that caused it
abbrev pub ask_again : State → ℕ → List Act
ask_again s received = if nat_le s.expected (asked_number s.phase) then [] else AskAgain received ∷ []

abbrev pub unsupported_body : Message → Message
unsupported_body m = number_as_field 45 (message_number m) ∷ field 372 (text 35 m) ∷ field 380 (codes "3")
    ∷ field 58 (codes "unsupported message type") ∷ []

-- ---- a resend that is asked for

-- the last number asked for: 0 and what is above the last sent number mean that one
abbrev pub until : ℕ → ℕ → ℕ
until last e = if e == 0 || nat_lt last e then last else e

-- from 7 to 16, where so many numbers were given
abbrev pub range : ℕ → Message → Range
range last m = record { from = unwrap_or (short_number 7 m) 0; to = until last (unwrap_or (short_number 16 m) 0) }

abbrev pub send_again : Range → Answer
send_again r = record { logon = None; resends = Some r; acts = [] }

abbrev pub resend_rows : ℕ → Message → List SessionRow
resend_rows last m =
    row (not (has 7 m)) (reject_act m 7 1 ∷ [])
    ∷ row (not (has 16 m)) (reject_act m 16 1 ∷ [])
    ∷ row (is_none (short_number 7 m)) (reject_act m 7 6 ∷ [])
    ∷ row (is_none (short_number 16 m)) (reject_act m 16 6 ∷ [])
    ∷ row_of (nat_le 1 (range last m).from) (send_again (range last m))
    ∷ row true (reject_act m 7 5 ∷ [])
    ∷ []

abbrev pub resend_answer : ℕ → Message → Answer
resend_answer last m = answer_by (resend_rows last m)

-- more acts, before or behind those of an answer
abbrev pub after_acts : List Act → Answer → Answer
after_acts first a = record a { acts = first ++ a.acts }

abbrev pub with_acts : Answer → List Act → Answer
with_acts a more = record a { acts = a.acts ++ more }

-- ---- logged on, and the number is the expected one

abbrev pub is_letter_or_digit : ℕ → Bool
is_letter_or_digit byte = is_ascii_alphabetic byte || is_ascii_digit byte

abbrev pub is_other_type : List ℕ → Bool
is_other_type type = nat_le 1 (length type) && (nat_le (length type) 2 && list_all is_letter_or_digit type)

abbrev pub is_application : Message → Bool
is_application m = is_type (codes "D") m || (is_type (codes "F") m || is_type (codes "G") m)

-- why a 36 is refused: missing, no number, not above
abbrev pub new_number_reason : Message → ℕ
new_number_reason m = if not (has 36 m) then 1 else if is_none (short_number 36 m) then 6 else 5

abbrev pub refused_acts : Message → Option SessionRefusal → List Act
refused_acts m None = Deliver m ∷ []
refused_acts m (Some r) = reject_act m r.tag r.reason ∷ []

abbrev pub fault_acts : Message → Option SessionRefusal → List Act
fault_acts m None = []
fault_acts m (Some r) = reject_act m r.tag r.reason ∷ []

abbrev pub expected_rows : ℕ → Message → List SessionRow
expected_rows last m =
    row (is_some (first_fault m)) (fault_acts m (first_fault m))
    ∷ row (is_type (codes "0") m || (is_type (codes "3") m || is_type (codes "j") m)) []
    ∷ row (is_type (codes "1") m && has 112 m) (Say Heartbeat (field 112 (text 112 m) ∷ []) ∷ [])
    ∷ row (is_type (codes "1") m) (reject_act m 112 1 ∷ [])
    ∷ row_of (is_type (codes "2") m) (resend_answer last m)
    ∷ row (is_type (codes "4") m && is_from (message_number m + 1) (short_number 36 m))
    (Expect (unwrap_or (short_number 36 m) 0) ∷ [])
    ∷ row (is_type (codes "4") m) (reject_act m 36 (new_number_reason m) ∷ [])
    ∷ row (is_type (codes "5") m) log_out_silently
    ∷ row (is_type (codes "A") m) (log_out (codes "already logged on"))
    ∷ row (is_application m) (refused_acts m (application_refusal m))
    ∷ row (is_other_type (text 35 m)) (SayUnsupported (unsupported_body m) ∷ [])
    ∷ row true (reject_act m 35 11 ∷ [])
    ∷ []

-- ---- logged on

-- N is the number of the message, E the expected one
abbrev pub logged_on_rows : State → Message → ℕ → ℕ → List SessionRow
logged_on_rows s m n e =
    row (n == 0) (log_out (codes "MsgSeqNum missing"))
    ∷ row (not (is_from_client s m)) ((if n == e then Grow ∷ [] else [])
    ++ reject_act m (if is 49 s.client m then 56 else 49) 9 ∷ log_out (codes "CompID problem"))
    ∷ row (is_plain_reset m && is_from e (short_number 36 m)) (Expect (unwrap_or (short_number 36 m) 0) ∷ [])
    ∷ row (is_plain_reset m) (reject_act m 36 (if has 36 m then 5 else 1) ∷ [])
    ∷ row (nat_lt n e && is 43 (codes "Y") m) []
    ∷ row (nat_lt n e) (too_low e n)
    ∷ row (nat_lt e n && is_type (codes "5") m) log_out_silently
    ∷ row_of (nat_lt e n && is_type (codes "2") m) (with_acts (resend_answer (length s.given) m) (ask_again s n))
    ∷ row (nat_lt e n) (ask_again s n)
    ∷ row_of true (after_acts (Grow ∷ []) (answer_by (expected_rows (length s.given) m)))
    ∷ []

-- ---- not logged on

-- an interval (108) of 0 to 3,600 seconds
abbrev pub is_interval : Option ℕ → Bool
is_interval None = false
is_interval (Some n) = nat_le n 3600

-- ResetSeqNumFlag (141) is missing, Y or N
abbrev pub resets : Message → Bool
resets m = is 141 (codes "Y") m

abbrev pub is_logon : State → Message → Bool
is_logon s m =
    is_type (codes "A") m
    && (is_from_client s m
    && (not (message_number m == 0)
    && (is 98 (codes "0") m
    && (is_interval (short_number 108 m)
    && ((not (has 141 m) || (resets m || is 141 (codes "N") m))
    && is_none (first_fault m))))))

abbrev pub logon_of : Message → Logon
logon_of m = record { interval_text = text 108 m; interval = unwrap_or (short_number 108 m) 0; resets = resets m }

abbrev pub logon_row : Bool → Message → List Act → SessionRow
logon_row holds m done = record {
  holds = holds;
  answer =
      record { logon = Some (logon_of m); resends = None; acts = done };
}

-- N is the number of the message, E the expected one, from 1 where both numbers begin anew
abbrev pub logon_rows : State → Message → ℕ → ℕ → List SessionRow
logon_rows s m n e =
    row (not (is_logon s m)) (Shut ∷ [])
    ∷ row (resets m && not (n == 1)) (Shut ∷ [])
    ∷ row (nat_lt n e) (too_low e n)
    ∷ logon_row (n == e) m (Grow ∷ [])
    ∷ logon_row true m (AskAgain n ∷ [])
    ∷ []

-- ---- ticks

-- not logged on after 15 seconds
abbrev pub waiting_rows : ℕ → ℕ → List SessionRow
waiting_rows since now = row (nat_lt (since + 15000) now) (Shut ∷ []) ∷ []

-- silence of either side, by the client's interval in seconds: 2.4, 1.2 and 1 of it in milliseconds
abbrev pub silence_rows : Logged → ℕ → List SessionRow
silence_rows l now =
    row (l.interval == 0) []
    ∷ row (nat_lt (l.heard + 2400 * l.interval) now) (log_out (codes "no answer"))
    ∷ row (nat_lt (l.heard + 1200 * l.interval) now && not l.tested) (Test ∷ [])
    ∷ row (nat_le (l.written + 1000 * l.interval) now) (Say Heartbeat [] ∷ [])
    ∷ []

-- ---- the table

abbrev pub message_rows : State → Message → Phase → List SessionRow
message_rows s m Down = []
message_rows s m (AwaitingLogon since) = logon_rows s m (message_number m) (if resets m then 1 else s.expected)
message_rows s m (LoggedOn l) = logged_on_rows s m (message_number m) s.expected

abbrev pub tick_rows : State → Phase → List SessionRow
tick_rows s Down = []
tick_rows s (AwaitingLogon since) = waiting_rows since s.latest
tick_rows s (LoggedOn l) = silence_rows l s.latest

-- a body of the application is written only where the client is logged on
abbrev pub is_logged_on : Phase → Bool
is_logged_on Down = false
is_logged_on (AwaitingLogon since) = false
is_logged_on (LoggedOn l) = true
