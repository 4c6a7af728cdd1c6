-- What a file says that was given a history and an end: the history; and what is found of days that are the same.
use Rattle.std.proofs.Common.{◌≡◌, ◌<◌, ◌^◌, ℕ, None, List, [], ◌∷◌, ◌++◌, length, refl, sym, ap, subst, ◌∙◌, arith}
use Rattle.std.proofs.Common.{append-nil}
use Rattle.std.proofs.Common.{length-append}
use mathlib.Core.List.{IsPrefix}
use Rattle.journal_pages.specs.declared.version.Version.TheVariants.{Two}
use Rattle.journal_days.specs.Day.{day_records}
use Rattle.gate_law.specs.Settings.{Settings}
use Rattle.gate_law.specs.Events.{History}
use Rattle.gate_journal.specs.Kept.{Kept, kept_in}
use Rattle.gate_lines.specs.gate_audit.Pairs.{Pair}
use Rattle.gate_journal.specs.declared.links.OpenLink.{OpenLink}
use Rattle.gate_journal.specs.Links.{open_after, open_behind, open_in}
use Rattle.gate_events.specs.declared.event.Event.{Event}
use Rattle.journal_file.specs.File.{file_of, sized_page}
use Rattle.journal_file.specs.Said.{ReadsInFront, ReadsNothingElse}
use Rattle.journal_log.specs.declared.host_file.HostFile.{HostFile}
use Rattle.journal_log.specs.Seen.{host_may_leave, host_seen}
use Rattle.gate_journal.proofs.Days.{compared, turns-same}
use Rattle.gate_journal.specs.Same.{IsSameDay}
use Rattle.journal_log.specs.Kept.{HasEnd}
use Rattle.gateway_day.specs.Audits.{IsAuditOf, IsFoundOf}

none-left : (l : List (List ℕ)) → length l ≡ 0 → l ≡ []
none-left [] e = refl
none-left (x ∷ l) e = absurd (omega (arith, e))

both-prefix : (a b : List (List ℕ)) → IsPrefix a b → IsPrefix b a → a ≡ b
both-prefix a b p q =
    let one = length-append a p.0 in
    let two = length-append b q.0 in
    let first = ap length p.1 in
    let second = ap length q.1 in
    sym (append-nil a)
    ∙ ap (λ (l : List (List ℕ)). a ++ l) (sym (none-left p.0 (omega (arith, one, two, first, second)))) ∙ p.1

pub given-back : (file : List ℕ) (read kept : Kept) (f : HostFile) → length file < 2 ^ 64 → ReadsInFront file read
    → ReadsNothingElse file read → read ≡ kept_in read.pages → kept ≡ kept_in kept.pages
    → HasEnd host_seen host_may_leave kept.pages f → file ≡ host_seen f → IsSameDay read kept
given-back file read kept f few front nothing read-is kept-is end seen =
    let written : file ≡ file_of Two end.pages = seen ∙ end.ended.written in
    let first = front end.pages (sized_page Two []) end.of.day written in
    let size : length (file_of Two end.pages) < 2 ^ 64 = subst (λ (l : List ℕ). length l < 2 ^ 64) written few in
    let second = nothing end.pages [] end.of.day size (append-nil file ∙ written) in
    let same : read.pages ≡ end.pages = both-prefix read.pages end.pages second first in
    compared read kept read.pages kept.pages (day_records Two read.pages) (day_records Two kept.pages) read-is kept-is
    refl refl None (ap (day_records Two) same ∙ end.of.same)

pub turned-round : (a b : Kept) → IsSameDay a b → IsSameDay b a
turned-round a b same = record {
  events = sym same.events;
  batches = sym same.batches;
  records = sym same.records;
}

-- the same is found of days that are the same
pub found-same : (s : Settings) (a b : Kept) (ps : List Pair) (up : List OpenLink) → IsSameDay a b
    → IsFoundOf s a ps up → IsFoundOf s b ps up
found-same s a b ps up same found = record {
  audit = subst (λ (h : History). IsAuditOf s h ps) (turns-same a b same) found.audit;
  links = found.links ∙ ap open_in same.events;
}

-- the links that are up behind events and more of them
pub open-both : (up : List OpenLink) (events more : List Event)
    → open_behind up (events ++ more) ≡ open_behind (open_behind up events) more
open-both up [] more = refl
open-both up (e ∷ events) more = open-both (open_after up e) events more
