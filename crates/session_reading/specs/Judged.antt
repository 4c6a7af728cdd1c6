-- The answer of each line of the table, as the code names them.
use Rattle.std.specs.Prelude.{◌≡◌, ◌≤◌, ℕ, Bool, true, false, None, [], ◌∷◌, ◌++◌, if◌then◌else◌, codes}
use Rattle.fix_types.specs.fix_fields.Field.{Message, field, text}
use Rattle.session_law.specs.Formats.{application_refusal}
use Rattle.session_law.specs.Session.{State, Answer, Grow, Expect, Say, Heartbeat, SayUnsupported, Deliver}
use Rattle.session_law.specs.Table.{acts, reject_act, log_out, log_out_silently, send_again, unsupported_body, too_low}
use Rattle.session_law.specs.Table.{with_acts, after_acts, ask_again}
use Rattle.session_reading.specs.declared.taken.Taken.{Taken}
use Rattle.session_reading.specs.declared.taken.Taken.TheVariants as taken
use Rattle.session_reading.specs.declared.row.Row.{Row}
use Rattle.session_reading.specs.declared.row.Row.TheVariants as rows

abbrev pub taken_answer : Message → Taken → Answer
taken_answer m taken.Nothing = acts []
taken_answer m (taken.Rejected tag reason) = acts (reject_act m tag reason ∷ [])
taken_answer m taken.Echoed = acts (Say Heartbeat (field 112 (text 112 m) ∷ []) ∷ [])
taken_answer m (taken.SentAgain from to) = send_again (record { from = from; to = to })
taken_answer m (taken.Expects n) = acts (Expect n ∷ [])
taken_answer m taken.LoggedOut = acts log_out_silently
taken_answer m taken.AlreadyLoggedOn = acts (log_out (codes "already logged on"))
taken_answer m taken.Delivered = acts (Deliver m ∷ [])
taken_answer m taken.Unsupported = acts (SayUnsupported (unsupported_body m) ∷ [])

-- N is the number of the message, E the expected one
abbrev pub row_answer : State → Message → ℕ → ℕ → Row → Answer
row_answer s m n e rows.NumberMissing = acts (log_out (codes "MsgSeqNum missing"))
row_answer s m n e (rows.NamesWrong is_expected tag) = acts
    ((if is_expected then Grow ∷ [] else []) ++ reject_act m tag 9 ∷ log_out (codes "CompID problem"))
row_answer s m n e (rows.Expects number) = acts (Expect number ∷ [])
row_answer s m n e (rows.Rejected reason) = acts (reject_act m 36 reason ∷ [])
row_answer s m n e rows.Passed = acts []
row_answer s m n e rows.TooLow = acts (too_low e n)
row_answer s m n e rows.LoggedOut = acts log_out_silently
row_answer s m n e (rows.GapWithResend t) = with_acts (taken_answer m t) (ask_again s n)
row_answer s m n e rows.Gap = acts (ask_again s n)
row_answer s m n e (rows.Taken t) = after_acts (Grow ∷ []) (taken_answer m t)

-- whether a message is delivered to the application
abbrev pub is_delivered : Taken → Bool
is_delivered taken.Nothing = false
is_delivered (taken.Rejected tag reason) = false
is_delivered taken.Echoed = false
is_delivered (taken.SentAgain from to) = false
is_delivered (taken.Expects n) = false
is_delivered taken.LoggedOut = false
is_delivered taken.AlreadyLoggedOn = false
is_delivered taken.Delivered = true
is_delivered taken.Unsupported = false

abbrev pub is_delivery : Row → Bool
is_delivery rows.NumberMissing = false
is_delivery (rows.NamesWrong is_expected tag) = false
is_delivery (rows.Expects number) = false
is_delivery (rows.Rejected reason) = false
is_delivery rows.Passed = false
is_delivery rows.TooLow = false
is_delivery rows.LoggedOut = false
is_delivery (rows.GapWithResend t) = false
is_delivery rows.Gap = false
is_delivery (rows.Taken t) = is_delivered t

-- what is named can be done: numbers sent again are numbers that were given, and nothing refuses a message that is
-- delivered
abbrev pub TakenFits : Message → ℕ → Taken → Type 0
TakenFits m last taken.Nothing = Unit {0}
TakenFits m last (taken.Rejected tag reason) = Unit {0}
TakenFits m last taken.Echoed = Unit {0}
TakenFits m last (taken.SentAgain from to) = (1 ≤ from) × (to ≤ last)
TakenFits m last (taken.Expects n) = Unit {0}
TakenFits m last taken.LoggedOut = Unit {0}
TakenFits m last taken.AlreadyLoggedOn = Unit {0}
TakenFits m last taken.Delivered = application_refusal m ≡ None
TakenFits m last taken.Unsupported = Unit {0}

abbrev pub RowFits : Message → ℕ → Row → Type 0
RowFits m last rows.NumberMissing = Unit {0}
RowFits m last (rows.NamesWrong is_expected tag) = Unit {0}
RowFits m last (rows.Expects number) = Unit {0}
RowFits m last (rows.Rejected reason) = Unit {0}
RowFits m last rows.Passed = Unit {0}
RowFits m last rows.TooLow = Unit {0}
RowFits m last rows.LoggedOut = Unit {0}
RowFits m last (rows.GapWithResend t) = TakenFits m last t × (is_delivered t ≡ false)
RowFits m last rows.Gap = Unit {0}
RowFits m last (rows.Taken t) = TakenFits m last t
