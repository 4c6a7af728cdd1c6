-- What was written of a file, and what a file says.
use Rattle.std.proofs.Common.{◌≡◌, ℕ, List, Option, inl, inr, subst}
use Rattle.std.specs.Io.KnownBytes.{Appends}
use Rattle.gate_lines.specs.gate_law.Events.{History}
use Rattle.gate_lines.specs.gate_law.Settings.{Settings}
use Rattle.gate_lines.specs.gate_law.Holds.{Holds}
use Rattle.gate_audit.specs.declared.day_audit.DayAudit.{DayAudit}
use Rattle.gate_audit.specs.Auditing.{IsAuditing}
use Rattle.gate_audit.specs.Pairs.{accepted_pairs, pairs}
use Rattle.gate_lines.specs.AuditLines.{shown_audit}
use Rattle.journal_file.specs.declared.ending.Ending.{Ending}
use Rattle.journal_file.specs.declared.ending.Ending.TheVariants.{Over}
use Rattle.journal_file.specs.declared.fault.FileFault.{FileFault}
use Rattle.journal_file.specs.declared.read_fault.ReadFault.TheVariants.{NoFile, NoMemory, Read}
use Rattle.gate_audit.specs.gate_journal.Kept.{turns}
use Rattle.journal_file.specs.Said.{IsNoFile, Says}
use Rattle.journal_audit.specs.declared.read_day.Unread.{Unread}
use Rattle.journal_audit.specs.declared.read_day.Unread.TheVariants.{Account, File}
use Rattle.journal_audit.specs.Audits.{Audits, IsAuditOfFile, IsAuditSoFar, IsNoDaysFile}
use Rattle.journal_audit.specs.Audits.{IsNotOver, IsUnread, NamesAPage}
use Rattle.journal_file.specs.Inputs.{IsJudged, IsReadTo}
use Rattle.journal_file.proofs.Inputs.{weaker}

module _ (known later : Option (List ℕ)) (s : Settings) (audit : DayAudit) (ending : Ending) (old new : Option (List ℕ)) (read : IsReadTo known later (λ file. Audits s file audit ending)) where
  pub audited : ending ≡ Over
      → ((h : History) → IsAuditing s h audit → Appends old new (shown_audit (pairs s h)))
      → ((h : History) → IsAuditing s h audit → Holds s h → Appends old new (shown_audit (accepted_pairs s h)))
      → IsReadTo known later (λ file. IsAuditOfFile s file old new)
  audited over written run = (
    read.0,
    read.1,
    read.2,
    record {
      day = read.3.day;
      says = subst (λ (e : Ending). Says read.0 read.3.day e) over read.3.says;
      written = written (turns read.3.day) read.3.is;
      run = run (turns read.3.day) read.3.is;
    },
  )

  pub so-far : ((h : History) → IsAuditing s h audit → Appends old new (shown_audit (pairs s h)))
      → ((h : History) → IsAuditing s h audit → Holds s h → Appends old new (shown_audit (accepted_pairs s h)))
      → IsReadTo known later (λ file. IsAuditSoFar s file old new)
  so-far written run = (
    read.0,
    read.1,
    read.2,
    record {
      day = read.3.day;
      ending = ending;
      says = read.3.says;
      written = written (turns read.3.day) read.3.is;
      run = run (turns read.3.day) read.3.is;
    },
  )

pub going-on : (known later : Option (List ℕ)) (s : Settings) (audit : DayAudit) (ending : Ending)
    → IsReadTo known later (λ file. Audits s file audit ending) → (ending ≡ Over → ⊥)
    → IsJudged known later IsNotOver
going-on known later s audit ending read isnt = (
  read.0,
  read.1,
  inr (read.2, inr (record { day = read.3.day; ending = ending; says = read.3.says; not_over = isnt })),
)

named : (n : ℕ) (fault : FileFault) (file : List ℕ) → IsNoFile file n fault → IsNoDaysFile file
named n fault file why = record { number = n; fault = fault; why = why }

pub no-days-file : (known later : Option (List ℕ)) (why : Unread) → IsUnread known later why → NamesAPage why
    → IsJudged known later IsNoDaysFile
no-days-file known later (File (NoFile n fault)) is names =
    weaker known later (λ file. IsNoFile file n fault) IsNoDaysFile (named n fault) is
no-days-file known later (File NoMemory) is names = absurd names
no-days-file known later (File (Read error)) is names = absurd names
no-days-file known later (Account fault) is names = absurd names

pub no-file : (known later : Option (List ℕ)) (why : Unread) → IsUnread known later why → NamesAPage why
    → IsJudged known later IsNotOver
no-file known later why is names =
    weaker known later IsNoDaysFile IsNotOver (λ file none. inl none) (no-days-file known later why is names)
