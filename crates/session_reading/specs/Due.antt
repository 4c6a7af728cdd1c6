-- What each thing that is due gives.
use Rattle.std.specs.Prelude.{[], ◌∷◌, codes}
use Rattle.session_law.specs.Session.{Answer, Say, Heartbeat, Test, Shut}
use Rattle.session_law.specs.Table.{acts, log_out}
use Rattle.session_reading.specs.declared.due.Due.{Due}
use Rattle.session_reading.specs.declared.due.Due.TheVariants as dues

abbrev pub due_answer : Due → Answer
due_answer dues.Nothing = acts []
due_answer dues.Close = acts (Shut ∷ [])
due_answer dues.NoAnswer = acts (log_out (codes "no answer"))
due_answer dues.TestRequest = acts (Test ∷ [])
due_answer dues.Heartbeat = acts (Say Heartbeat [] ∷ [])
