-- What a history has behind a mark, as a page of its own.
use Rattle.std.proofs.Common.{◌≡◌, ℕ, List, [], ◌∷◌, ◌++◌, length, None, sym, ap}
use Rattle.std.proofs.Common.{subst, ◌∙◌, append-nil}
use Rattle.journal_pages.specs.declared.place.Place.TheVariants.{BetweenBatches}
use Rattle.journal_pages.specs.declared.version.Version.TheVariants.{Two}
use Rattle.journal_pages.specs.Record.{Record}
use Rattle.journal_pages.specs.Page.{page_front, page_records}
use Rattle.journal_days.specs.Cut.{IsMoreOf, last_size}
use Rattle.journal_days.specs.Day.{day_fault, day_records}
use Rattle.journal_days.specs.Apart.{DifferFrom, batches_behind}
use Rattle.journal_log.specs.Since.{bytes_since}
use Rattle.journal_log.specs.Marks.{MarksEnd, PartsFrom}
use Rattle.journal_log.specs.declared.mark.HistoryMark.{HistoryMark}
use Rattle.journal_log.proofs.Behind.{history-more}
use Rattle.journal_log.proofs.GoesOn.{more-goes-on}
use Rattle.journal_log.proofs.Read.{More}

-- the records of a page of all that a history has behind a mark
pub record Since (before now : List (List ℕ)) (page : List ℕ) : Type 0 where
  pub all : day_records Two now ≡ day_records Two before ++ day_records Two (page ∷ [])

pub since-mark : (before now : List (List ℕ)) (mark : HistoryMark) (page : List ℕ) → MarksEnd before mark
    → day_fault Two now ≡ None → IsMoreOf before now
    → page ≡ page_front mark.records ++ bytes_since mark.pages mark.bytes now → Since before now page
since-mark before now mark page ends day more is =
    let found : More BetweenBatches (bytes_since (length before) (last_size before) now) (day_records Two before)
    (day_records Two now) BetweenBatches = history-more before now ends.day day (more-goes-on before now more) in
    let same : page ≡ page_front mark.records ++ bytes_since (length before) (last_size before) now =
    is ∙ ap (λ n. page_front mark.records ++ bytes_since n mark.bytes now) ends.pages
    ∙ ap (λ n. page_front mark.records ++ bytes_since (length before) n now) ends.bytes in
    let own : page_records Two page ≡ found.records = ap (page_records Two) same ∙ found.reads.records in
    record {
      all = found.all ∙ ap (λ (l : List Record). day_records Two before ++ l)
          (sym own ∙ sym (append-nil (page_records Two page)));
    }

pub same-part : (before now part : List (List ℕ)) (page : List ℕ) (own left : List Record) (batches n : ℕ)
    → Since before now page → own ≡ day_records Two (page ∷ []) → left ≡ day_records Two part
    → (own ≡ left) × (n ≡ batches_behind batches own)
    → (day_records Two now ≡ day_records Two before ++ day_records Two part)
    × (n ≡ batches_behind batches (day_records Two part))
same-part before now part page own left batches n since first second same = (
  since.all ∙ ap (λ (l : List Record). day_records Two before ++ l) (sym first ∙ same.0 ∙ second),
  same.1 ∙ ap (batches_behind batches) (same.0 ∙ second),
)

pub other-part : (before now part : List (List ℕ)) (page : List ℕ) (own left : List Record) (batches n : ℕ)
    → Since before now page → own ≡ day_records Two (page ∷ []) → left ≡ day_records Two part
    → DifferFrom batches n own left → PartsFrom before now part batches n
other-part before now part page own left batches n since first second differ = record {
  more = own;
  same = since.all ∙ ap (λ (l : List Record). day_records Two before ++ l) (sym first);
  differ = subst (λ (l : List Record). DifferFrom batches n own l) second differ;
}
