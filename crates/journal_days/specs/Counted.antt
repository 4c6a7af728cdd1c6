-- Pages of which the number of the next one is known, without reading the last one again.
use Rattle.std.specs.Prelude.{◌≡◌, ◌≤◌, ℕ, ◌+◌, List, [], ◌∷◌, ◌++◌, length}
use Rattle.journal_pages.specs.declared.version.Version.TheVariants.{Two}
use Rattle.journal_pages.specs.Page.{page_records}
use Rattle.journal_pages.specs.Record.{records_in}
use Rattle.journal_days.specs.Cut.{next_number}

-- a page is records to its end: as many as what is written behind it has are read behind its own
pub record GoesOn (page : List ℕ) : Type 0 where
  pub front : 12 ≤ length page
  pub records : (more : List ℕ)
      → length (page_records Two (page ++ more)) ≡ length (page_records Two page) + length (records_in more)

-- the last page is one
abbrev pub LastGoesOn : List (List ℕ) → Type 0
LastGoesOn pages = (before : List (List ℕ)) (page : List ℕ) → pages ≡ before ++ page ∷ [] → GoesOn page

-- the page behind has this number, and the last one is records to its end
pub record IsCounted (number : ℕ) (pages : List (List ℕ)) : Type 0 where
  pub next : next_number pages ≡ number
  pub last : LastGoesOn pages
