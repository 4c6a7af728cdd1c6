-- What a log's file is, and what it keeps through a crash.
use Rattle.std.specs.Prelude.{◌≡◌, ℕ, List}
use Rattle.journal_pages.specs.declared.version.Version.TheVariants.{Two}
use Rattle.journal_file.specs.File.{file_of, sized_pages}
use Rattle.journal_log.specs.Crash.{Only, StandsBefore}

-- the file is these pages, all of it durable
pub record IsSettled {F : Type 0} (seen : F → List ℕ) (may_leave : F → List ℕ → Type 0) (pages : List (List ℕ))
    (file : F) : Type 0 where
  pub written : seen file ≡ sized_pages Two pages
  pub durable : Only (seen file) (may_leave file)

-- the file is these pages and an end, all of it durable
pub record IsEnded {F : Type 0} (seen : F → List ℕ) (may_leave : F → List ℕ → Type 0) (pages : List (List ℕ))
    (file : F) : Type 0 where
  pub written : seen file ≡ file_of Two pages
  pub durable : Only (seen file) (may_leave file)

-- each crash leaves a file in front of which these pages stand, so that they are read from it
abbrev pub LeavesAtLeast : {F : Type 0} → (F → List ℕ → Type 0) → List (List ℕ) → F → Type 0
LeavesAtLeast may_leave pages file = (c : List ℕ) → may_leave file c → StandsBefore (sized_pages Two pages) c
