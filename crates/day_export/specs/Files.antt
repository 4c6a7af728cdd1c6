-- Files of days, exported.
use Rattle.std.specs.Prelude.{ℕ, List, Option}
use Rattle.std.specs.Io.KnownBytes.{Appends}
use Rattle.gate_journal.specs.Kept.{Kept}
use Rattle.journal_file.specs.declared.ending.Ending.{Ending}
use Rattle.journal_file.specs.declared.read_fault.ReadFault.TheVariants.{NoFile, NoMemory, Read}
use Rattle.journal_file.specs.Inputs.{IsJudged}
use Rattle.journal_file.specs.Said.{IsNoFile, Says}
use Rattle.day_export.specs.declared.fault.ExportFault.{ExportFault}
use Rattle.day_export.specs.declared.fault.ExportFault.TheVariants.{File, Stream}
use Rattle.day_export.specs.declared.format.Format.{Format}
use Rattle.day_export.specs.Rows.{exported, turns_text}

-- what a writer has grew by just the export of what a file says
pub record IsExport (format : Format) (file : List ℕ) (ending : Ending) (old new : Option (List ℕ)) : Type 0 where
  pub day : Kept
  pub says : Says file day ending
  pub written : Appends old new (exported format day)

-- the same by the rows alone
pub record ReadsRows (format : Format) (file : List ℕ) (ending : Ending) (old new : Option (List ℕ)) : Type 0 where
  pub day : Kept
  pub says : Says file day ending
  pub written : Appends old new (turns_text format day.events day.batches)

-- why a day isn't exported: its file is none, by this page, or else nothing is said of it
abbrev pub IsUnexported : Option (List ℕ) → Option (List ℕ) → ExportFault → Type 0
IsUnexported known later (File (NoFile n fault)) = IsJudged known later (λ file. IsNoFile file n fault)
IsUnexported known later (File NoMemory) = Unit {0}
IsUnexported known later (File (Read error)) = Unit {0}
IsUnexported known later (Stream fault) = Unit {0}
