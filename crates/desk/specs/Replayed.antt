-- A part of a day that was stepped again. (Own.)
use Rattle.std.specs.Prelude.{◌≡◌, ℕ, List, ◌++◌}
use Rattle.journal_pages.specs.declared.version.Version.TheVariants.{Two}
use Rattle.desk_steps.specs.gate_journal.Day.{day_records}
use Rattle.journal_days.specs.Apart.{batches_behind}
use Rattle.journal_log.specs.Marks.{PartsFrom}
use Rattle.desk.specs.declared.replaying.ReplayFault.{ReplayFault}
use Rattle.desk.specs.declared.replaying.ReplayFault.TheVariants.{File, NoMemory, OtherDay, Unread}

-- a history has just the records of a part of a day behind those before, and with them there are so many batches
pub record IsSamePart (before now part : List (List ℕ)) (batches after : ℕ) : Type 0 where
  pub same : day_records Two now ≡ day_records Two before ++ day_records Two part
  pub count : after ≡ batches_behind batches (day_records Two part)

-- other records stand there, behind so many batches
abbrev pub IsOtherPart : List (List ℕ) → List (List ℕ) → List (List ℕ) → ℕ → ReplayFault → Type 0
IsOtherPart before now part batches (OtherDay place) = PartsFrom before now part batches place
IsOtherPart before now part batches Unread = ⊥
IsOtherPart before now part batches (File fault) = ⊥
IsOtherPart before now part batches NoMemory = Unit {0}
