-- A day that stopped: what its file has. (Own.)
use Rattle.std.specs.Prelude.{◌≡◌, ℕ, ◌%◌, ◌^◌, List, length}
use Rattle.gate_lines.specs.gate_audit.gate_journal.Kept.{Kept}
use Rattle.journal_file.specs.declared.ending.Ending.{Ending}
use Rattle.journal_file.specs.declared.ending.Ending.TheVariants.{GoesOn, Over, Torn}
use Rattle.journal_file.specs.Said.{Says}

-- so many bytes of a write that was cut short stand at the end of a file that isn't over
abbrev pub EndsTorn : Ending → ℕ → Type 0
EndsTorn GoesOn torn = torn ≡ 0
EndsTorn (Torn n) torn = torn ≡ n
EndsTorn Over torn = ⊥

-- A file says a day that goes on, with so many events, in front of so many bytes of a write that was cut short.
pub record IsStopped (file : List ℕ) (events torn : ℕ) : Type 0 where
  pub day : Kept
  pub ending : Ending
  pub says : Says file day ending
  pub count : events ≡ length day.events % 2 ^ 64
  pub ends : EndsTorn ending torn
