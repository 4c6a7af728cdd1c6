-- When two days are the same, and where they part.
use Rattle.std.specs.Prelude.{◌≡◌, ℕ}
use Rattle.gate_journal.specs.Kept.{Kept}
use Rattle.journal_pages.specs.declared.version.Version.TheVariants.{Two}
use Rattle.journal_days.specs.Day.{day_records}
use Rattle.journal_days.specs.Apart.{DifferBehind}

-- the same events, each with the same batch
pub record IsSameDay (a b : Kept) : Type 0 where
  pub events : a.events ≡ b.events
  pub batches : a.batches ≡ b.batches
  pub records : day_records Two a.pages ≡ day_records Two b.pages

-- other records, behind so many batches that are the same
abbrev pub IsOtherAt : ℕ → Kept → Kept → Type 0
IsOtherAt place a b = DifferBehind place (day_records Two a.pages) (day_records Two b.pages)
