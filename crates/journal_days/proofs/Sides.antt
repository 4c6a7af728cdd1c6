-- Lists of records that are read side by side.
use Rattle.std.proofs.Common.{◌≡◌, ℕ, List, [], ◌∷◌, ◌++◌, refl, ap, sym, subst, ◌∙◌, append_assoc, append-nil}
use Rattle.journal_pages.specs.declared.kind.RecordKind.{RecordKind}
use Rattle.journal_pages.specs.Record.{Record}
use Rattle.journal_days.specs.Apart.{DifferFrom, FirstDiffer, batches_behind, with_record}

-- both lists begin with the same records, with which so many batches come to be this many, and these stand behind them
pub record SameSoFar (before batches : ℕ) (rs ss left right : List Record) : Type 0 where
  pub front : List Record
  pub first : rs ≡ front ++ left
  pub second : ss ≡ front ++ right
  pub count : batches ≡ batches_behind before front

pub none-yet : (b : ℕ) (rs ss : List Record) → SameSoFar b b rs ss rs ss
none-yet b rs ss = record { front = []; first = refl; second = refl; count = refl }

counted-more : (n : ℕ) (front : List Record) (r : Record)
    → batches_behind n (front ++ r ∷ []) ≡ with_record (batches_behind n front) r.kind
counted-more n [] r = refl
counted-more n (x ∷ front) r = counted-more (with_record n x.kind) front r

pub one-more : (b n m : ℕ) (kind : RecordKind) (r s : Record) (rs ss left right behind further : List Record)
    → SameSoFar b n rs ss left right
    → left ≡ r ∷ behind → right ≡ s ∷ further → r ≡ s → kind ≡ r.kind → m ≡ with_record n kind
    → SameSoFar b m rs ss behind further
one-more b n m kind r s rs ss left right behind further same first second equal is count = record {
  front = same.front ++ r ∷ [];
  first = same.first ∙ ap (λ (l : List Record). same.front ++ l) first ∙ sym (append_assoc same.front (r ∷ []) behind);
  second = same.second ∙ ap (λ (l : List Record). same.front ++ l)
      (second ∙ ap (λ (x : Record). x ∷ further) (sym equal))
      ∙ sym (append_assoc same.front (r ∷ []) further);
  count = count ∙ ap (with_record n) is ∙ ap (λ (k : ℕ). with_record k r.kind) same.count
      ∙ sym (counted-more b same.front r);
}

pub part-here : (b n : ℕ) (rs ss left right : List Record) → SameSoFar b n rs ss left right → FirstDiffer left right
    → DifferFrom b n rs ss
part-here b n rs ss left right same apart = record {
  front = same.front;
  left = left;
  right = right;
  first = same.first;
  second = same.second;
  apart = apart;
  count = same.count;
}

pub differ-both : (r s : Record) (left right behind further : List Record) → left ≡ r ∷ behind → right ≡ s ∷ further
    → (r ≡ s → ⊥) → FirstDiffer left right
differ-both r s left right behind further first second apart =
    subst (λ (l : List Record). FirstDiffer l right) (sym first)
    (subst (λ (l : List Record). FirstDiffer (r ∷ behind) l) (sym second) apart)

pub differ-left : (r : Record) (left right behind : List Record) → left ≡ r ∷ behind → right ≡ []
    → FirstDiffer left right
differ-left r left right behind first second =
    subst (λ (l : List Record). FirstDiffer l right) (sym first)
    (subst (λ (l : List Record). FirstDiffer (r ∷ behind) l) (sym second) tt)

pub differ-right : (s : Record) (left right further : List Record) → left ≡ [] → right ≡ s ∷ further
    → FirstDiffer left right
differ-right s left right further first second =
    subst (λ (l : List Record). FirstDiffer l right) (sym first)
    (subst (λ (l : List Record). FirstDiffer [] l) (sym second) tt)

pub same-whole : (b n : ℕ) (rs ss left right : List Record) → SameSoFar b n rs ss left right → left ≡ [] → right ≡ []
    → (rs ≡ ss) × (n ≡ batches_behind b rs)
same-whole b n rs ss left right same first second =
    let whole : rs ≡ same.front = same.first ∙ ap (λ (l : List Record). same.front ++ l) first ∙ append-nil same.front in (
      same.first ∙ ap (λ (l : List Record). same.front ++ l) (first ∙ sym second) ∙ sym same.second,
      same.count ∙ ap (batches_behind b) (sym whole),
    )
