-- A day's file: the bytes of its pages, each behind its length and its sum, and an end once the day is over. The form
-- is the gateway's own. Files of a first form, in which a page stands behind its length alone, are read and no longer
-- written.
use Rattle.std.specs.Prelude.{◌≤◌, ◌==◌, ℕ, ◌+◌, Bool, true, ◌&&◌, ◌||◌, nat_lt, List, [], ◌∷◌, ◌++◌, length}
use Rattle.std.specs.Prelude.{bytes_eq, drop, take, Option, Some, None, if◌then◌else◌}
use Rattle.std.specs.Int.{w64, to_be_bytes, from_be_bytes}
use Rattle.std.specs.List.{flat_map}
use Rattle.journal_pages.specs.declared.fault.PageFault.TheVariants as pages
use Rattle.journal_pages.specs.declared.version.Version.{Version}
use Rattle.journal_pages.specs.declared.version.Version.TheVariants.{One, Two}
use Rattle.journal_pages.specs.Page.{page_name}
use Rattle.journal_file.specs.declared.fault.FileFault.{FileFault}
use Rattle.journal_file.specs.declared.fault.FileFault.TheVariants as faults
use Rattle.journal_file.specs.Sum.{sum_of}

-- ---- what is written

-- what stands before a page: its length in eight bytes, the high byte first, and in the second form its sum likewise
abbrev pub before_page : Version → List ℕ → List ℕ
before_page One page = to_be_bytes w64 (length page)
before_page Two page = to_be_bytes w64 (length page) ++ to_be_bytes w64 (sum_of page)

abbrev pub sized_page : Version → List ℕ → List ℕ
sized_page form page = before_page form page ++ page

abbrev pub sized_pages : Version → List (List ℕ) → List ℕ
sized_pages form pages = flat_map (sized_page form) pages

-- pages, and an end: a page of no bytes
abbrev pub file_of : Version → List (List ℕ) → List ℕ
file_of form pages = sized_pages form pages ++ sized_page form []

-- ---- what is read

-- these four bytes stand there in a file
abbrev pub stands_at : ℕ → List ℕ → List ℕ → Bool
stands_at place name file = bytes_eq (take 4 (drop place file)) name

-- the length that stands in front
abbrev pub size_in : List ℕ → ℕ
size_in bytes = from_be_bytes w64 (take 8 bytes)

-- an end of the first form, and nothing else
abbrev pub is_end_of_one : List ℕ → Bool
is_end_of_one file = (length file == 8) && (size_in file == 0)

-- The form of a file, by the name of its first page: the second where that of a page of version 2 stands behind a
-- length and a sum; the first where that of a page of version 1 stands behind a length, or there is an end of it and
-- nothing else; else the second.
abbrev pub form_of : List ℕ → Version
form_of file =
    if stands_at 16 (page_name Two) file then Two
    else if stands_at 8 (page_name One) file || is_end_of_one file then One
    else Two

-- how many bytes stand before a page
abbrev pub before_size : Version → ℕ
before_size One = 8
before_size Two = 16

-- there are fewer bytes than stand before a page, or than its length says
abbrev pub is_cut_short : Version → List ℕ → Bool
is_cut_short form bytes = nat_lt (length bytes) (before_size form + size_in bytes)

-- the page in front, where it isn't cut short
abbrev pub page_in : Version → List ℕ → List ℕ
page_in form bytes = take (size_in bytes) (drop (before_size form) bytes)

-- in the second form the sum in front is that of the page
abbrev pub has_its_sum : Version → List ℕ → Bool
has_its_sum One bytes = true
has_its_sum Two bytes = from_be_bytes w64 (take 8 (drop 8 bytes)) == sum_of (page_in Two bytes)

-- why no page stands in front, if none does
abbrev pub front_fault : Version → List ℕ → Option FileFault
front_fault form bytes =
    if is_cut_short form bytes then Some (faults.Page pages.CutShort)
    else if has_its_sum form bytes then None
    else Some faults.Sum

-- none is an end
abbrev pub AreNotEmpty : List (List ℕ) → Type 0
AreNotEmpty [] = Unit {0}
AreNotEmpty (page ∷ pages) = (1 ≤ length page) × AreNotEmpty pages
