-- A day's file that is read page by page.
use Rattle.std.specs.Prelude.{◌≡◌, ◌⊎◌, ℕ, List, [], ◌∷◌, ◌++◌, length, Bool, true, false, Option, Some, None}
use Rattle.std.specs.Prelude.{Result, Ok, Err}
use Rattle.std.specs.Io.KnownBytes.{Consumes, IsAtEnd, Keeps}
use Rattle.journal_pages.specs.declared.fault.PageFault.{PageFault}
use Rattle.journal_pages.specs.declared.version.Version.TheVariants.{Two}
use Rattle.journal_pages.specs.Page.{page_name}
use Rattle.journal_days.specs.Begun.{begun_fault}
use Rattle.journal_days.specs.Day.{day_fault, version_of}
use Rattle.gate_journal.specs.Kept.{GoOnBy, kept_in}
use Rattle.journal_file.specs.declared.fault.FileFault.TheVariants as faults
use Rattle.journal_file.specs.declared.read_fault.ReadFault.{ReadFault}
use Rattle.journal_file.specs.declared.read_fault.ReadFault.TheVariants.{NoFile, NoMemory, Read}
use Rattle.journal_file.specs.declared.reader.Mode.{Mode}
use Rattle.journal_file.specs.declared.reader.Mode.TheVariants.{Unseen, Pages, Whole, Grown}
use Rattle.journal_file.specs.declared.reader.NextTurns.{NextTurns}
use Rattle.journal_file.specs.declared.reader.NextTurns.TheVariants.{Turns, End}
use Rattle.journal_file.specs.File.{AreNotEmpty, sized_page, sized_pages, stands_at}
use Rattle.journal_file.specs.Said.{IsNoFile, Says}
use Rattle.journal_file.specs.Window.{IsEnded}

-- How a file is read, the bytes that were read of it, those of them that weren't taken, the pages that were, those of
-- them that weren't given, and the pages that were.
pub record Reading : Type 0 where
  pub mode : Mode
  pub read : List ℕ
  pub left : List ℕ
  pub taken : List (List ℕ)
  pub held : List (List ℕ)
  pub yielded : List (List ℕ)

abbrev pub nothing_begun : Reading
nothing_begun = record { mode = Unseen; read = []; left = []; taken = []; held = []; yielded = [] }

-- ---- what a reader keeps

-- Page by page: the pages that were taken and the bytes that are left are what was read; a day begins with them, and
-- those that were given are one.
pub record IsInPages (read left : List ℕ) (taken held yielded : List (List ℕ)) : Type 0 where
  pub same : read ≡ sized_pages Two taken ++ left
  pub full : AreNotEmpty taken
  pub parts : taken ≡ yielded ++ held
  pub begun : begun_fault (version_of taken) taken ≡ None
  pub named : stands_at 16 (page_name Two) read ≡ true
  pub day : day_fault Two yielded ≡ None

pub record IsUnseen (read left : List ℕ) (taken held yielded : List (List ℕ)) : Type 0 where
  pub same : read ≡ left
  pub none_taken : taken ≡ []
  pub none_held : held ≡ []
  pub none_yielded : yielded ≡ []

abbrev pub IsReading : Mode → List ℕ → List ℕ → List (List ℕ) → List (List ℕ) → List (List ℕ) → Type 0
IsReading Unseen read left taken held yielded = IsUnseen read left taken held yielded
IsReading Pages read left taken held yielded = IsInPages read left taken held yielded
IsReading (Whole ending) read left taken held yielded = Says read (kept_in yielded) ending
IsReading Grown read left taken held yielded = Unit {0}

-- ---- what a call does

-- the input lost what was read
abbrev pub ReadsOn : Option (List ℕ) → Option (List ℕ) → List ℕ → List ℕ → Type 0
ReadsOn known later before after = (piece : List ℕ) × Consumes known later piece × (after ≡ before ++ piece)

-- turns more, behind those before; or the end of the file, of which all was read
abbrev pub IsGiven : Option (List ℕ) → List (List ℕ) → Reading → NextTurns → Type 0
IsGiven left yielded now (Turns part) = GoOnBy yielded part now.yielded
IsGiven left yielded now (End ending) =
    Says now.read (kept_in now.yielded) ending × (now.yielded ≡ yielded) × IsAtEnd left

-- what was read is no file, for this page and reason
abbrev pub IsNoFileBy : List ℕ → ReadFault → Type 0
IsNoFileBy read (NoFile n fault) = IsNoFile read n fault
IsNoFileBy read NoMemory = Unit {0}
IsNoFileBy read (Read error) = Unit {0}

-- nor is anything that begins with it
abbrev pub IsNoneBy : List ℕ → ReadFault → Type 0
IsNoneBy read fault = (more : List ℕ) → IsNoFileBy (read ++ more) fault

-- the file is none: whatever it has behind what was read, or that was all
abbrev pub IsRefused : Option (List ℕ) → List ℕ → ReadFault → Type 0
IsRefused left read fault = IsNoneBy read fault ⊎ (IsAtEnd left × IsNoFileBy read fault)

abbrev pub Comes : Option (List ℕ) → List (List ℕ) → Reading → Result (Option NextTurns) ReadFault → Type 0
Comes left yielded now (Ok None) = now.yielded ≡ yielded
Comes left yielded now (Ok (Some next)) = IsGiven left yielded now next
Comes left yielded now (Err fault) = (now.yielded ≡ yielded) × IsRefused left now.read fault

-- a step: bytes more were read, and nothing was given, or what comes next, or the file is refused
pub record Advances (known later : Option (List ℕ)) (old new : Reading) (result : Result (Option NextTurns) ReadFault)
    : Type 0 where
  pub read : ReadsOn known later old.read new.read
  pub comes : Comes later old.yielded new result

-- ---- one page

-- a whole page of so many bytes stands in front; an end where there are none
pub record StandsInFront (size : ℕ) (left : List ℕ) : Type 0 where
  pub page : List ℕ
  pub behind : List ℕ
  pub same : left ≡ sized_page Two page ++ behind
  pub sized : length page ≡ size

-- a page can't stand behind these, whatever stands behind it
abbrev pub IsWrongPage : List (List ℕ) → List ℕ → ReadFault → Type 0
IsWrongPage pages page (NoFile n fault) = (page_fault : PageFault) × (fault ≡ faults.Page page_fault)
    × (begun_fault (version_of (pages ++ page ∷ [])) (pages ++ page ∷ []) ≡ Some (n, page_fault))
IsWrongPage pages page NoMemory = Unit {0}
IsWrongPage pages page (Read error) = Unit {0}

-- pages that are held are no turns yet
abbrev pub AreNotWhole : List (List ℕ) → List (List ℕ) → Type 0
AreNotWhole taken held = day_fault (version_of taken) taken ≡ None → held ≡ []

-- ---- more of the file

-- as long as it isn't read whole
abbrev pub GrowsStill : Mode → Type 0
GrowsStill Unseen = Unit {0}
GrowsStill Pages = Unit {0}
GrowsStill (Whole ending) = ⊥
GrowsStill Grown = Unit {0}

-- a piece more was read, and else all is as it was
pub record GrewBy (known later : Option (List ℕ)) (old new : Reading) : Type 0 where
  pub piece : List ℕ
  pub consumed : Consumes known later piece
  pub grown : new ≡ record old { read = old.read ++ piece; left = old.left ++ piece }

-- there was more; or the input is at its end
abbrev pub HasMore : Option (List ℕ) → Option (List ℕ) → Reading → Reading → Bool → Type 0
HasMore known later old new true = GrewBy known later old new
HasMore known later old new false = (new ≡ old) × Consumes known later [] × IsAtEnd later

-- nothing was read
abbrev pub HasFailed : Option (List ℕ) → Option (List ℕ) → Reading → Reading → ReadFault → Type 0
HasFailed known later old new fault = (new ≡ old) × Keeps known later × IsEnded fault
