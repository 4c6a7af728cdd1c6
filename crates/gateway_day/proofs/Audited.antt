-- The audit of a day that is over, by its file.
use Rattle.std.proofs.Common.{◌≡◌, ◌<◌, ◌^◌, ◌∙◌, ℕ, Bool, true, false, Option, Some, None, Result, Ok, Err, length}
use Rattle.std.proofs.Common.{IfOk, sym, ap, subst}
use Rattle.gate_law.specs.Settings.{Settings}
use Rattle.gate_journal.specs.Kept.{Kept}
use Rattle.journal_log.specs.declared.host_file.HostFile.{HostFile}
use Rattle.journal_log.specs.Kept.{TurnLogState}
use Rattle.desk.specs.Ahead.{IsEnded}
use Rattle.gateway_day.specs.declared.day.AuditedDay.{AuditedDay}
use Rattle.gateway_day.specs.Audits.{FileHas, IsFileAudited, IsFileRead, IsFileSaying, IsFoundOf, IsSeen}
use Rattle.gateway_day.proofs.Back.{found-same, turned-round}

-- of a history in memory that its file has
pub whole-has : {E : Type 0} (s : Settings) (kept : Kept) (r : Result AuditedDay E)
    → IfOk r (λ d. IsFoundOf s kept d.pairs.items d.links.items)
    → IfOk r (λ d. d.has_day ≡ true → IsFileSaying kept d.read.bytes)
    → IfOk r (λ d. d.has_day ≡ true → IsFileAudited s d.read.bytes d.pairs.items d.links.items)
whole-has s kept (Ok d) found has = λ is.
    let says = has is in
    record {
      day = says.day;
      says = says.says;
      found = found-same s kept says.day d.pairs.items d.links.items (turned-round says.day kept says.same) found;
    }
whole-has s kept (Err e) found has = tt

-- of a history whose file was given all of it, and its end
pub written-file : {E : Type 0} (s : Settings) (kept : Kept) (journal : Option (TurnLogState HostFile)) (lost : Bool)
    (size : ℕ) (r : Result AuditedDay E) → size < 2 ^ 64 → FileHas journal size
    → (lost ≡ false → IsEnded kept journal)
    → IfOk r (λ d. IsFileRead s kept d.read.bytes d.pairs.items d.links.items d.has_day)
    → IfOk r (λ d. lost ≡ false → IsSeen journal d.read.bytes → IsFoundOf s kept d.pairs.items d.links.items)
written-file s kept None lost size (Ok d) few has ended read = λ kept_on seen. absurd seen
written-file s kept (Some log) lost size (Ok d) few has ended read = λ kept_on seen.
    read.same log.file (ended kept_on) (subst (λ (n : ℕ). n < 2 ^ 64) (has ∙ ap length (sym seen)) few) seen
written-file s kept journal lost size (Err e) few has ended read = tt
