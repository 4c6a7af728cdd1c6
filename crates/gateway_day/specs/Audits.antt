-- A day that is over, and its audit, written.
use Rattle.std.specs.Prelude.{◌≡◌, ◌<◌, ◌^◌, ℕ, Bool, true, List, Option, None, Some, length}
use Rattle.std.specs.Io.KnownBytes.{Appends}
use Rattle.gate_law.specs.Settings.{Settings}
use Rattle.gate_law.specs.Events.{History}
use Rattle.gate_law.specs.Holds.{Holds}
use Rattle.gate_lines.specs.gate_audit.gate_journal.Kept.{Kept}
use Rattle.link_io.specs.declared.link_fault.LinkFault.{LinkFault}
use Rattle.gate_lines.specs.gate_audit.Pairs.{Pair, accepted_pairs, pairs}
use Rattle.gate_lines.specs.AuditLines.{shown_audit}
use Rattle.gate_lines.specs.gate_audit.gate_journal.Kept.{turns}
use Rattle.journal_file.specs.Said.{Says}
use Rattle.journal_log.specs.declared.host_file.HostFile.{HostFile}
use Rattle.journal_log.specs.Seen.{host_may_leave, host_seen}
use Rattle.journal_log.specs.Kept.{HasEnd, TurnLogState}
use Rattle.gate_journal.specs.declared.links.OpenLink.{OpenLink}
use Rattle.gate_journal.specs.Links.{open_in}
use Rattle.gate_journal.specs.Same.{IsSameDay}
use Rattle.journal_file.specs.declared.ending.Ending.TheVariants.{Over}

-- a day: its settings, its events with their batches, whether all of them are in memory, the first fault of a link, and
-- its journal, where it has one, and whether that was lost
pub record DayState : Type 0 where
  pub settings : Settings
  pub kept : Kept
  pub is_whole : Bool
  pub fault : Option LinkFault
  pub journal : Option (TurnLogState HostFile)
  pub is_lost : Bool

-- these bytes are what a journal's file was given: whoever reads the file again is given them, where the file system
-- gives back what was written
abbrev pub IsSeen : Option (TurnLogState HostFile) → List ℕ → Type 0
IsSeen None file = ⊥
IsSeen (Some log) file = file ≡ host_seen log.file

-- what a writer has grew by just the audit of this history by these settings
abbrev pub AuditIsWrittenOf : Settings → History → Option (List ℕ) → Option (List ℕ) → Type 0
AuditIsWrittenOf s h old new = Appends old new (shown_audit (accepted_pairs s h))

-- the same of some history of which all that is promised holds
abbrev pub AuditIsWritten : Option (List ℕ) → Option (List ℕ) → Type 0
AuditIsWritten old new = (s : Settings) × (h : History) × Holds s h × AuditIsWrittenOf s h old new

-- The audit of this history by these settings: what its reports and messages say; of one of which all that is promised
-- holds these are its accepted new orders.
pub record IsAuditOf (s : Settings) (h : History) (ps : List Pair) : Type 0 where
  pub read : ps ≡ pairs s h
  pub run : Holds s h → ps ≡ accepted_pairs s h

-- What is found of a day: its audit, and the links that are up at its end: those that came and haven't gone.
pub record IsFoundOf (s : Settings) (day : Kept) (ps : List Pair) (up : List OpenLink) : Type 0 where
  pub audit : IsAuditOf s (turns day) ps
  pub links : up ≡ open_in day.events

-- a file is of a day that is over, which is just this one
pub record IsFileSaying (kept : Kept) (file : List ℕ) : Type 0 where
  pub day : Kept
  pub says : Says file day Over
  pub same : IsSameDay day kept

-- a file is of a day that is over, of which this is found
pub record IsFileAudited (s : Settings) (file : List ℕ) (ps : List Pair) (up : List OpenLink) : Type 0 where
  pub day : Kept
  pub says : Says file day Over
  pub found : IsFoundOf s day ps up

-- What a file that was read again comes to: what is found of a day that is over, where it is said to have the day; and
-- where it was given a history and an end, what is found of that.
pub record IsFileRead (s : Settings) (kept : Kept) (file : List ℕ) (ps : List Pair) (up : List OpenLink) (has : Bool)
    : Type 0 where
  pub has_day : has ≡ true → IsFileAudited s file ps up
  pub same : (f : HostFile) → HasEnd host_seen host_may_leave kept.pages f → length file < 2 ^ 64 → file ≡ host_seen f
      → IsFoundOf s kept ps up

-- the file of a journal has so many bytes
abbrev pub FileHas : Option (TurnLogState HostFile) → ℕ → Type 0
FileHas None size = size ≡ 0
FileHas (Some log) size = size ≡ length (host_seen log.file)
