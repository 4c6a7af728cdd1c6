-- Days whose records are the same.
use Rattle.std.proofs.Common.{◌≡◌, ℕ, List, [], Option, Some, None, sym, ap, subst, ◌∙◌}
use Rattle.std.specs.Prelude.{MatchOption}
use Rattle.gate_law.specs.Events.{Batch, History}
use Rattle.gate_journal.specs.Kept.{Kept, kept_in, turns, turns_onto}
use Rattle.gate_events.specs.declared.event.Event.{Event}
use Rattle.journal_pages.specs.declared.version.Version.TheVariants.{Two}
use Rattle.journal_days.specs.Day.{day_records}
use Rattle.journal_pages.specs.Record.{Record}
use Rattle.journal_records.specs.Days.{batches_in, events_in}
use Rattle.journal_days.specs.Apart.{DifferBehind}
use Rattle.gate_journal.specs.Same.{IsOtherAt, IsSameDay}

-- the records of pages of which a day is
records-of : (k : Kept) (pages : List (List ℕ)) → k ≡ kept_in pages → (left : List Record)
    → left ≡ day_records Two pages → day_records Two k.pages ≡ left
records-of k pages is left lent = ap (λ (h : Kept). day_records Two h.pages) is ∙ sym lent

same-day : (a b : Kept) (p q : List (List ℕ)) → a ≡ kept_in p → b ≡ kept_in q → day_records Two p ≡ day_records Two q
    → IsSameDay a b
same-day a b p q first second records = record {
  events = ap (λ (k : Kept). k.events) first ∙ ap events_in records ∙ sym (ap (λ (k : Kept). k.events) second);
  batches = ap (λ (k : Kept). k.batches) first ∙ ap batches_in records ∙ sym (ap (λ (k : Kept). k.batches) second);
  records = ap (λ (k : Kept). day_records Two k.pages) first ∙ records
      ∙ sym (ap (λ (k : Kept). day_records Two k.pages) second);
}

pub compared : (a b : Kept) (p q : List (List ℕ)) (left right : List Record) → a ≡ kept_in p → b ≡ kept_in q
    → left ≡ day_records Two p → right ≡ day_records Two q → (result : Option ℕ)
    → MatchOption result (left ≡ right) (λ place. DifferBehind place left right)
    → MatchOption result (IsSameDay a b) (λ place. IsOtherAt place a b)
compared a b p q left right first second lent other None same = same-day a b p q first second (sym lent ∙ same ∙ other)
compared a b p q left right first second lent other (Some place) differ =
    subst (λ (l : List Record). DifferBehind place l (day_records Two b.pages)) (sym (records-of a p first left lent))
    (subst (λ (l : List Record). DifferBehind place left l) (sym (records-of b q second right other)) differ)

-- the same turns
pub turns-same : (a b : Kept) → IsSameDay a b → turns a ≡ turns b
turns-same a b same =
    ap (λ (es : List Event). turns_onto es a.batches []) same.events
    ∙ ap (λ (bs : List Batch). turns_onto b.events bs []) same.batches
