-- What the lines of a link that isn't logged on give.
use Rattle.std.specs.Prelude.{ℕ, Bool, List, [], ◌∷◌, None, Some}
use Rattle.fix_fields.specs.Field.{Message, text}
use Rattle.session_law.specs.Session.{Act, Answer, Grow, AskAgain, Shut}
use Rattle.session_law.specs.Table.{acts, too_low}
use Rattle.fix_session.specs.declared.judge.LogonRow.{LogonRow}
use Rattle.fix_session.specs.declared.judge.LogonRow.TheVariants as rows

abbrev pub logs_on : Message → ℕ → Bool → List Act → Answer
logs_on m interval resets done = record {
  logon = Some
      (record { interval_text = text 108 m; interval = interval; resets = resets });
  resends = None;
  acts = done;
}

abbrev pub logon_answer : Message → ℕ → LogonRow → Answer
logon_answer m n rows.NotAnswered = acts (Shut ∷ [])
logon_answer m n (rows.TooLow expected) = acts (too_low expected n)
logon_answer m n (rows.LogsOn interval resets) = logs_on m interval resets (Grow ∷ [])
logon_answer m n (rows.LogsOnWithGap interval resets) = logs_on m interval resets (AskAgain n ∷ [])
