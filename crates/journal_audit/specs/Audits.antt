-- The audit of a day's file, and the file of a script's day.
use Rattle.std.specs.Prelude.{◌≡◌, ◌⊎◌, ℕ, List, Option}
use Rattle.std.specs.Io.KnownBytes.{Appends}
use Rattle.gate_lines.specs.gate_law.Settings.{Settings}
use Rattle.gate_lines.specs.gate_law.Holds.{Holds}
use Rattle.gate_audit.specs.declared.day_audit.DayAudit.{DayAudit}
use Rattle.gate_audit.specs.Auditing.{IsAuditing}
use Rattle.gate_audit.specs.Pairs.{accepted_pairs, pairs}
use Rattle.gate_lines.specs.AuditLines.{shown_audit}
use Rattle.gate_lines.specs.Scripts.{ComesTo}
use Rattle.gate_lines.specs.script_steps.Settings.{fixed}
use Rattle.journal_file.specs.declared.ending.Ending.{Ending}
use Rattle.journal_file.specs.declared.ending.Ending.TheVariants.{Over}
use Rattle.journal_file.specs.declared.fault.FileFault.{FileFault}
use Rattle.gate_audit.specs.gate_journal.Kept.{Kept, turns}
use Rattle.journal_file.specs.declared.read_fault.ReadFault.TheVariants.{NoFile, NoMemory, Read}
use Rattle.journal_file.specs.Inputs.{IsJudged}
use Rattle.journal_file.specs.Said.{IsNoFile, Says}
use Rattle.journal_file.specs.Written.{IsFileOfTurns}
use Rattle.journal_audit.specs.declared.read_day.Unread.{Unread}
use Rattle.journal_audit.specs.declared.read_day.Unread.TheVariants.{Account, File}

-- The file is of a day that is over; what a writer has grew by just the audit of what it says, and where all that is
-- promised of a run holds of it, by the accounts of the orders that were accepted.
pub record IsAuditOfFile (s : Settings) (file : List ℕ) (old new : Option (List ℕ)) : Type 0 where
  pub day : Kept
  pub says : Says file day Over
  pub written : Appends old new (shown_audit (pairs s (turns day)))
  pub run : Holds s (turns day) → Appends old new (shown_audit (accepted_pairs s (turns day)))

-- The same of a file of a day that is over or goes on: of what its whole pages say.
pub record IsAuditSoFar (s : Settings) (file : List ℕ) (old new : Option (List ℕ)) : Type 0 where
  pub day : Kept
  pub ending : Ending
  pub says : Says file day ending
  pub written : Appends old new (shown_audit (pairs s (turns day)))
  pub run : Holds s (turns day) → Appends old new (shown_audit (accepted_pairs s (turns day)))

-- the file is none, for this page and fault
pub record IsNoDaysFile (file : List ℕ) : Type 0 where
  pub number : ℕ
  pub fault : FileFault
  pub why : IsNoFile file number fault

-- the file is of a day that goes on
pub record GoesOnStill (file : List ℕ) : Type 0 where
  pub day : Kept
  pub ending : Ending
  pub says : Says file day ending
  pub not_over : ending ≡ Over → ⊥

-- the file is none of a day that is over
abbrev pub IsNotOver : List ℕ → Type 0
IsNotOver file = IsNoDaysFile file ⊎ GoesOnStill file

-- What a writer has grew by a file that says the history that the lines of this text come to, of which all that is
-- promised holds.
abbrev pub IsDayOfScript : List ℕ → Option (List ℕ) → Option (List ℕ) → Type 0
IsDayOfScript text old new =
    (kept : Kept) × ComesTo text kept × Holds fixed (turns kept) × IsFileOfTurns (turns kept) old new

-- ---- files that are read

-- the audit of what a file says, and how the file ends
pub record Audits (s : Settings) (file : List ℕ) (audit : DayAudit) (ending : Ending) : Type 0 where
  pub day : Kept
  pub says : Says file day ending
  pub is : IsAuditing s (turns day) audit

-- why a file wasn't read to its end: it is none, by this page, or else nothing is said of it
abbrev pub IsUnread : Option (List ℕ) → Option (List ℕ) → Unread → Type 0
IsUnread known later (File (NoFile n fault)) = IsJudged known later (λ file. IsNoFile file n fault)
IsUnread known later (File NoMemory) = Unit {0}
IsUnread known later (File (Read error)) = Unit {0}
IsUnread known later (Account fault) = Unit {0}

-- a page is named
abbrev pub NamesAPage : Unread → Type 0
NamesAPage (File (NoFile n fault)) = Unit {0}
NamesAPage (File NoMemory) = ⊥
NamesAPage (File (Read error)) = ⊥
NamesAPage (Account fault) = ⊥
