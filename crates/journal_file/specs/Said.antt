-- What a day's file says, and why bytes are none.
use Rattle.std.specs.Prelude.{◌≡◌, ◌⊎◌, ◌≤◌, ◌<◌, ◌^◌, ℕ, true, false, List, [], ◌++◌, length, min, Some, None}
use mathlib.Core.List.{IsPrefix}
use Rattle.journal_pages.specs.declared.fault.PageFault.{PageFault}
use Rattle.journal_pages.specs.declared.fault.PageFault.TheVariants as pages
use Rattle.journal_pages.specs.declared.version.Version.{Version}
use Rattle.journal_pages.specs.declared.version.Version.TheVariants.{Two}
use Rattle.journal_days.specs.Begun.{begun_fault}
use Rattle.journal_days.specs.Day.{day_fault, version_of}
use Rattle.gate_journal.specs.Kept.{IsRead, Kept}
use Rattle.journal_file.specs.declared.ending.Ending.{Ending}
use Rattle.journal_file.specs.declared.fault.FileFault.{FileFault}
use Rattle.journal_file.specs.declared.fault.FileFault.TheVariants as faults
use Rattle.journal_file.specs.Endings.{EndsBy, is_unfinished}
use Rattle.journal_file.specs.File.{AreNotEmpty, file_of, form_of, front_fault, sized_page, sized_pages}

-- whole pages, none of which is an end, and behind them bytes by which a file of this form ends so
pub record IsParted (form : Version) (file : List ℕ) (pages : List (List ℕ)) (ending : Ending) : Type 0 where
  pub rest : List ℕ
  pub same : file ≡ sized_pages form pages ++ rest
  pub full : AreNotEmpty pages
  pub end : EndsBy form rest ending

-- the same, where the pages are a day
pub record IsPartedDay (form : Version) (file : List ℕ) (pages : List (List ℕ)) (ending : Ending) : Type 0 where
  pub parted : IsParted form file pages ending
  pub day : day_fault (version_of pages) pages ≡ None

-- ---- what a file says

-- the history that a file's pages are, and how the file ends
pub record Says (file : List ℕ) (day : Kept) (ending : Ending) : Type 0 where
  pub pages : List (List ℕ)
  pub parted : IsParted (form_of file) file pages ending
  pub read : IsRead pages day

-- Of these pages, written in front of a file, each is read, and nothing before them.
abbrev pub ReadsInFront : List ℕ → Kept → Type 0
ReadsInFront file day = (yielded : List (List ℕ)) (more : List ℕ) → day_fault Two yielded ≡ None
    → file ≡ sized_pages Two yielded ++ more → IsPrefix yielded day.pages

-- Of the beginning of a file that was written with these pages, nothing else is read.
abbrev pub ReadsNothingElse : List ℕ → Kept → Type 0
ReadsNothingElse file day = (written : List (List ℕ)) (more : List ℕ) → day_fault Two written ≡ None
    → length (file_of Two written) < 2 ^ 64 → file ++ more ≡ file_of Two written → IsPrefix day.pages written

-- ---- what is damaged

-- The first page with which something is wrong is named, be it with its bytes or with what it says behind the pages
-- before.

-- the place of the page behind so many, from 0; behind 2^32 - 1 it stays
abbrev pub number_behind : List (List ℕ) → ℕ
number_behind pages = min (length pages) 4_294_967_295

-- Whole pages with which a day begins, and behind them bytes in front of which stands neither another nor an end, for
-- this reason, and which no write that was cut short left.
pub record IsBrokenAt (n : ℕ) (fault : FileFault) (file : List ℕ) : Type 0 where
  pub pages : List (List ℕ)
  pub rest : List ℕ
  pub same : file ≡ sized_pages (form_of file) pages ++ rest
  pub full : AreNotEmpty pages
  pub begun : begun_fault (version_of pages) pages ≡ None
  pub why : front_fault (form_of file) rest ≡ Some fault
  pub lasting : is_unfinished (form_of file) rest ≡ false
  pub number : n ≡ number_behind pages

-- the file of a day, and something behind its end
pub record HasMoreAt (n : ℕ) (file : List ℕ) : Type 0 where
  pub pages : List (List ℕ)
  pub rest : List ℕ
  pub same : file ≡ file_of (form_of file) pages ++ rest
  pub full : AreNotEmpty pages
  pub day : day_fault (version_of pages) pages ≡ None
  pub more : 1 ≤ length rest
  pub number : n ≡ number_behind pages

-- why bytes are no file, by its form
abbrev pub IsNoForm : List ℕ → ℕ → FileFault → Type 0
IsNoForm file n fault = IsBrokenAt n fault file ⊎ (HasMoreAt n file × (fault ≡ faults.Page pages.Head))

-- whole pages, with which no day begins, whatever stands behind them
pub record HasWrongPage (n : ℕ) (fault : FileFault) (file : List ℕ) : Type 0 where
  pub pages : List (List ℕ)
  pub rest : List ℕ
  pub same : file ≡ sized_pages (form_of file) pages ++ rest
  pub full : AreNotEmpty pages
  pub page_fault : PageFault
  pub why : begun_fault (version_of pages) pages ≡ Some (n, page_fault)
  pub is : fault ≡ faults.Page page_fault

-- these bytes stand behind the last page of a file: an end, or what a write that was cut short left, or nothing
abbrev pub IsBehindLast : Version → List ℕ → Type 0
IsBehindLast form rest = ((more : List ℕ) × (rest ≡ sized_page form [] ++ more)) ⊎ (is_unfinished form rest ≡ true)

-- all pages of a file, with which a day begins, and which are none: the last one ends inside a batch
pub record EndsInBatch (n : ℕ) (fault : FileFault) (file : List ℕ) : Type 0 where
  pub pages : List (List ℕ)
  pub rest : List ℕ
  pub same : file ≡ sized_pages (form_of file) pages ++ rest
  pub full : AreNotEmpty pages
  pub behind : IsBehindLast (form_of file) rest
  pub begun : begun_fault (version_of pages) pages ≡ None
  pub page_fault : PageFault
  pub why : day_fault (version_of pages) pages ≡ Some (n, page_fault)
  pub is : fault ≡ faults.Page page_fault

-- pages that are no day as they are, for this reason
pub record IsOpenAt (pages : List (List ℕ)) (n : ℕ) (fault : FileFault) : Type 0 where
  pub page_fault : PageFault
  pub why : day_fault (version_of pages) pages ≡ Some (n, page_fault)
  pub is : fault ≡ faults.Page page_fault

-- why the pages of a file are no day
abbrev pub IsNoDay : List ℕ → ℕ → FileFault → Type 0
IsNoDay file n fault = HasWrongPage n fault file ⊎ EndsInBatch n fault file

-- why bytes are no day's file
abbrev pub IsNoFile : List ℕ → ℕ → FileFault → Type 0
IsNoFile file n fault = IsNoForm file n fault ⊎ IsNoDay file n fault

-- memory ran out, of which the file says nothing
abbrev pub IsNoMemory : ℕ → FileFault → Type 0
IsNoMemory n fault = (n ≡ 0) × (fault ≡ faults.Page pages.NoMemory)
