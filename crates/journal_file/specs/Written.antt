-- A history that was written as a day's file.
use Rattle.std.specs.Prelude.{◌≡◌, ℕ, List, Option, None}
use Rattle.std.specs.Io.KnownBytes.{Appends}
use Rattle.gate_journal.specs.gate_law.Events.{History}
use Rattle.journal_pages.specs.declared.version.Version.TheVariants.{Two}
use Rattle.journal_days.specs.Day.{day_fault}
use Rattle.gate_journal.specs.Kept.{kept_in, turns}
use Rattle.journal_file.specs.File.{file_of}

-- the pages of a day, in a file of the second form
pub record IsFile (pages : List (List ℕ)) (file : List ℕ) : Type 0 where
  pub same : file ≡ file_of Two pages
  pub day : day_fault Two pages ≡ None

-- pages that say these turns, in a file
pub record IsFileOf (h : History) (file : List ℕ) : Type 0 where
  pub pages : List (List ℕ)
  pub says : IsFile pages file
  pub same : turns (kept_in pages) ≡ h

-- what a writer has grew by such a file
abbrev pub IsFileOfTurns : History → Option (List ℕ) → Option (List ℕ) → Type 0
IsFileOfTurns h old new = (file : List ℕ) × IsFileOf h file × Appends old new file
