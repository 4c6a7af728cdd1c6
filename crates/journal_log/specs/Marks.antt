-- Where a history ends, and what it has behind such an end beside what other pages say. (Own.)
use Rattle.std.specs.Prelude.{◌≡◌, ◌%◌, ◌^◌, ℕ, List, None, ◌++◌, length}
use Rattle.journal_pages.specs.declared.version.Version.TheVariants.{Two}
use Rattle.journal_pages.specs.Record.{Record}
use Rattle.journal_days.specs.Cut.{last_size}
use Rattle.journal_days.specs.Day.{day_fault, day_records}
use Rattle.journal_days.specs.Apart.{DifferFrom, batches_behind}
use Rattle.journal_log.specs.declared.mark.HistoryMark.{HistoryMark}
use Rattle.journal_log.specs.declared.comparing.Compared.{Compared}
use Rattle.journal_log.specs.declared.comparing.Compared.TheVariants.{Other, Same}

-- the mark stands at the end of a history, the pages of a day
pub record MarksEnd (history : List (List ℕ)) (mark : HistoryMark) : Type 0 where
  pub day : day_fault Two history ≡ None
  pub pages : mark.pages ≡ length history
  pub bytes : mark.bytes ≡ last_size history
  pub records : mark.records ≡ length (day_records Two history) % 2 ^ 64

-- the records that a history has behind some, and those of a part of a day, which differ behind so many batches
pub record PartsFrom (before now part : List (List ℕ)) (batches place : ℕ) : Type 0 where
  pub more : List Record
  pub same : day_records Two now ≡ day_records Two before ++ more
  pub differ : DifferFrom batches place more (day_records Two part)

-- A history has just the records of a part of a day behind those before, which had so many batches; or they differ.
abbrev pub IsCompared : List (List ℕ) → List (List ℕ) → List (List ℕ) → ℕ → Compared → Type 0
IsCompared before now part batches (Same n) =
    (day_records Two now ≡ day_records Two before ++ day_records Two part)
    × (n ≡ batches_behind batches (day_records Two part))
IsCompared before now part batches (Other place) = PartsFrom before now part batches place
