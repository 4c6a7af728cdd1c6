-- The one line of the table by which a message is delivered.
use Rattle.std.proofs.Common.{◌≡◌, ◌+◌, ◌≤◌, ◌<◌, ◌^◌, ◌∷◌, [], ℕ, true, false, refl, sym, ap, ◌∙◌, arith}
use Rattle.fix_fields.specs.Field.{Message}
use Rattle.session_law.specs.Session.{State, Answer, Grow, Deliver, answered}
use Rattle.session_law.specs.Table.{acts, answer_by, logged_on_rows, message_number}
use Rattle.session_law.specs.Runs.{at_moment, heard}
use Rattle.session_law.proofs.Bounds.{logged-on-little}
use Rattle.session_reading.specs.declared.taken.Taken.{Taken}
use Rattle.session_reading.specs.declared.taken.Taken.TheVariants as taken
use Rattle.session_reading.specs.declared.row.Row.{Row}
use Rattle.session_reading.specs.declared.row.Row.TheVariants as rows
use Rattle.session_reading.specs.Judged.{is_delivered, is_delivery, row_answer}

taken-is : (t : Taken) → is_delivered t ≡ true → t ≡ taken.Delivered
taken-is taken.Nothing is = absurd (let wrong : false ≡ true = is in cc)
taken-is (taken.Rejected tag reason) is = absurd (let wrong : false ≡ true = is in cc)
taken-is taken.Echoed is = absurd (let wrong : false ≡ true = is in cc)
taken-is (taken.SentAgain from to) is = absurd (let wrong : false ≡ true = is in cc)
taken-is (taken.Expects n) is = absurd (let wrong : false ≡ true = is in cc)
taken-is taken.LoggedOut is = absurd (let wrong : false ≡ true = is in cc)
taken-is taken.AlreadyLoggedOn is = absurd (let wrong : false ≡ true = is in cc)
taken-is taken.Delivered is = refl
taken-is taken.Unsupported is = absurd (let wrong : false ≡ true = is in cc)

row-is : (row : Row) → is_delivery row ≡ true → row ≡ rows.Taken taken.Delivered
row-is rows.NumberMissing is = absurd (let wrong : false ≡ true = is in cc)
row-is (rows.NamesWrong is_expected tag) is = absurd (let wrong : false ≡ true = is in cc)
row-is (rows.Expects number) is = absurd (let wrong : false ≡ true = is in cc)
row-is (rows.Rejected reason) is = absurd (let wrong : false ≡ true = is in cc)
row-is rows.Passed is = absurd (let wrong : false ≡ true = is in cc)
row-is rows.TooLow is = absurd (let wrong : false ≡ true = is in cc)
row-is rows.LoggedOut is = absurd (let wrong : false ≡ true = is in cc)
row-is (rows.GapWithResend t) is = absurd (let wrong : false ≡ true = is in cc)
row-is rows.Gap is = absurd (let wrong : false ≡ true = is in cc)
row-is (rows.Taken t) is = ap rows.Taken (taken-is t is)

-- its answer
pub delivery-answer : (s : State) (m : Message) (row : Row) → is_delivery row ≡ true
    → answer_by (logged_on_rows s m (message_number m) s.expected) ≡ row_answer s m (message_number m) s.expected row
    → answer_by (logged_on_rows s m (message_number m) s.expected) ≡ acts (Grow ∷ Deliver m ∷ [])
delivery-answer s m row is answer = answer ∙ ap (row_answer s m (message_number m) s.expected) (row-is row is)

-- and the number that is expected then is one of at most 18 digits, or one more
pub delivery-little : (s : State) (at : ℕ) (m : Message) (row : Row) → is_delivery row ≡ true
    → answer_by (logged_on_rows s m (message_number m) s.expected) ≡ row_answer s m (message_number m) s.expected row
    → s.expected ≤ 10 ^ 18 → s.expected < 10 ^ 18
delivery-little s at m row is answer low =
    let little = (logged-on-little s at m).expected in
    let same : (answered (heard (at_moment at s))
    (answer_by (logged_on_rows s m (message_number m) s.expected))).state.expected ≡ s.expected + 1 =
    ap (λ (a : Answer). (answered (heard (at_moment at s)) a).state.expected) (delivery-answer s m row is answer) in
    let more = rw same at little in
    omega arith
