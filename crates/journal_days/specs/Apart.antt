-- Where two lists of records part.
use Rattle.std.specs.Prelude.{◌≡◌, ℕ, ◌+◌, List, [], ◌∷◌, ◌++◌, min}
use Rattle.journal_pages.specs.declared.kind.RecordKind.{RecordKind}
use Rattle.journal_pages.specs.declared.kind.RecordKind.TheVariants.{BatchEnd}
use Rattle.journal_pages.specs.Record.{Record}

-- so many whole batches, with a record of this kind more; behind 2^64 - 1 it stays
abbrev pub with_record : ℕ → RecordKind → ℕ
with_record batches BatchEnd = min (batches + 1) 18_446_744_073_709_551_615
with_record batches other = batches

-- how many batches end in records behind so many
abbrev pub batches_behind : ℕ → List Record → ℕ
batches_behind batches [] = batches
batches_behind batches (r ∷ rs) = batches_behind (with_record batches r.kind) rs

-- the first records differ, or only one of both has one
abbrev pub FirstDiffer : List Record → List Record → Type 0
FirstDiffer [] [] = ⊥
FirstDiffer [] (s ∷ ss) = Unit {0}
FirstDiffer (r ∷ rs) [] = Unit {0}
FirstDiffer (r ∷ rs) (s ∷ ss) = r ≡ s → ⊥

-- the same records in front of both, with which so many batches come to be this many, and then others
pub record DifferFrom (before batches : ℕ) (rs ss : List Record) : Type 0 where
  pub front : List Record
  pub left : List Record
  pub right : List Record
  pub first : rs ≡ front ++ left
  pub second : ss ≡ front ++ right
  pub apart : FirstDiffer left right
  pub count : batches ≡ batches_behind before front

-- the same records in front of both, in which so many batches end, and then others
abbrev pub DifferBehind : ℕ → List Record → List Record → Type 0
DifferBehind batches rs ss = DifferFrom 0 batches rs ss
