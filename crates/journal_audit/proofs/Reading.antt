-- What was read of a file, a part at a time, and the audit of its turns.
use Rattle.std.proofs.Common.{◌≡◌, ℕ, List, [], ◌∷◌, Option, sym, ap, subst, ◌∙◌}
use Rattle.std.proofs.KnownBytes.{Consumes-nil, Consumes-trans}
use Rattle.std.specs.Io.KnownBytes.{Consumes, IsAtEnd}
use Rattle.gate_lines.specs.gate_law.Events.{Batch, History}
use Rattle.gate_lines.specs.gate_law.Settings.{Settings}
use Rattle.gate_events.specs.declared.event.Event.{Event}
use Rattle.gate_audit.specs.declared.day_audit.DayAudit.{DayAudit}
use Rattle.gate_audit.specs.Auditing.{IsAuditing}
use Rattle.gate_audit.specs.gate_journal.Kept.{kept_in, kept_turn, turns, turns_onto}
use Rattle.journal_file.specs.declared.ending.Ending.{Ending}
use Rattle.journal_file.specs.declared.read_fault.ReadFault.{ReadFault}
use Rattle.journal_file.specs.declared.read_fault.ReadFault.TheVariants.{NoFile, NoMemory, Read}
use Rattle.journal_file.specs.Reader.{IsRefused, ReadsOn}
use Rattle.journal_file.specs.Said.{Says}
use Rattle.journal_audit.specs.declared.read_day.Unread.TheVariants.{File}
use Rattle.journal_file.specs.Inputs.{IsReadTo}
use Rattle.journal_audit.specs.Audits.{Audits, IsUnread}

-- ---- turns

-- what a part of the turns so far comes to
pub record Onward (old : DayAudit) (events : List Event) (batches : List Batch) (now : DayAudit) (left : List Event)
    (others : List Batch) : Type 0 where
  pub goes : (s : Settings) (h : History) → IsAuditing s h old
      → (seen : History) × IsAuditing s seen now × (turns_onto left others seen ≡ turns_onto events batches h)

pub onward-begun : (old : DayAudit) (events : List Event) (batches : List Batch) (left : List Event) (others : List Batch)
    → left ≡ events → others ≡ batches → Onward old events batches old left others
onward-begun old events batches left others e b = record {
  goes = λ s h is. (
    h,
    is,
    ap (λ (es : List Event). turns_onto es others h) e
        ∙ ap (λ (bs : List Batch). turns_onto events bs h) b,
  );
}

pub onward-more : (old now next : DayAudit) (events : List Event) (batches : List Batch) (left behind : List Event)
    (others rest : List Batch) (e : Event) (b : Batch) → Onward old events batches now left others
    → left ≡ e ∷ behind → others ≡ b ∷ rest
    → ((s : Settings) (h : History) → IsAuditing s h now → IsAuditing s (kept_turn e b ∷ h) next)
    → Onward old events batches next behind rest
onward-more old now next events batches left behind others rest e b so_far le lb takes = record {
  goes = λ s h is. let was = so_far.goes s h is in (
    kept_turn e b ∷ was.0,
    takes s was.0 was.1,
    sym (ap (λ (es : List Event). turns_onto es others was.0) le
        ∙ ap (λ (bs : List Batch). turns_onto (e ∷ behind) bs was.0) lb) ∙ was.2,
  );
}

pub onward-done : (old now : DayAudit) (events : List Event) (batches : List Batch) (left : List Event)
    (others : List Batch) → Onward old events batches now left others → left ≡ []
    → (s : Settings) (h : History) → IsAuditing s h old → IsAuditing s (turns_onto events batches h) now
onward-done old now events batches left others so_far none s h is =
    let was = so_far.goes s h is in
    subst (λ (t : History). IsAuditing s t now)
    (sym (ap (λ (es : List Event). turns_onto es others was.0) none) ∙ was.2) was.1

-- ---- a file so far

pub record SoFar (known later : Option (List ℕ)) (s : Settings) (read : List ℕ) (told : List (List ℕ)) (audit : DayAudit)
    : Type 0 where
  pub consumed : Consumes known later read
  pub is : IsAuditing s (turns (kept_in told)) audit

pub begun : (known : Option (List ℕ)) (s : Settings) (read : List ℕ) (told : List (List ℕ)) (audit : DayAudit)
    → read ≡ [] → told ≡ [] → IsAuditing s [] audit → SoFar known known s read told audit
begun known s read told audit er et is = record {
  consumed = subst (Consumes known known) (sym er) (Consumes-nil known);
  is = subst (λ (ps : List (List ℕ)). IsAuditing s (turns (kept_in ps)) audit) (sym et) is;
}

read-on : (known mid later : Option (List ℕ)) (before after : List ℕ) → Consumes known mid before
    → ReadsOn mid later before after → Consumes known later after
read-on known mid later before after first on =
    subst (Consumes known later) (sym on.2) (Consumes-trans known mid later before on.0 first on.1)

pub gone-on : (known mid later : Option (List ℕ)) (s : Settings) (before after : List ℕ) (old new : List (List ℕ))
    (audit next : DayAudit) (events : List Event) (batches : List Batch)
    → SoFar known mid s before old audit → ReadsOn mid later before after
    → turns (kept_in new) ≡ turns_onto events batches (turns (kept_in old))
    → ((x : Settings) (h : History) → IsAuditing x h audit → IsAuditing x (turns_onto events batches h) next)
    → SoFar known later s after new next
gone-on known mid later s before after old new audit next events batches so_far on onto takes = record {
  consumed = read-on known mid later before after so_far.consumed on;
  is = subst (λ (h : History). IsAuditing s h next) (sym onto) (takes s (turns (kept_in old)) so_far.is);
}

pub ended : (known mid later : Option (List ℕ)) (s : Settings) (before after : List ℕ) (old new : List (List ℕ))
    (audit : DayAudit) (ending : Ending) → SoFar known mid s before old audit → ReadsOn mid later before after
    → Says after (kept_in new) ending × (new ≡ old) × IsAtEnd later
    → IsReadTo known later (λ file. Audits s file audit ending)
ended known mid later s before after old new audit ending so_far on is = (
  after,
  read-on known mid later before after so_far.consumed on,
  is.2,
  record {
    day = kept_in new;
    says = is.0;
    is = subst (λ (ps : List (List ℕ)). IsAuditing s (turns (kept_in ps)) audit) (sym is.1) so_far.is;
  },
)

pub unread : (known mid later : Option (List ℕ)) (s : Settings) (before after : List ℕ) (old : List (List ℕ))
    (audit : DayAudit) (fault : ReadFault) → SoFar known mid s before old audit → ReadsOn mid later before after
    → IsRefused later after fault → IsUnread known later (File fault)
unread known mid later s before after old audit (NoFile n fault) so_far on why =
    (after, read-on known mid later before after so_far.consumed on, why)
unread known mid later s before after old audit NoMemory so_far on why = tt
unread known mid later s before after old audit (Read error) so_far on why = tt
