-- How records are cut into pages of version 2, and pages cut back. The format is the gateway's own.
use Rattle.std.specs.Prelude.{◌≡◌, ℕ, ◌+◌, ◌%◌, ◌^◌, Bool, false, List, [], ◌∷◌, ◌++◌, length, take, map, nat_le, if◌then◌else◌}
use Rattle.std.specs.Prelude.{Vec}
use Rattle.std.specs.declared.alloc.Global.{Global}
use Rattle.journal_pages.specs.declared.version.Version.TheVariants.{Two}
use Rattle.journal_pages.specs.Page.{page_front, page_number, page_records}
use Rattle.journal_pages.specs.Record.{Record, record_bytes}

-- the bytes of each page
abbrev pub texts : List (Vec ℕ Global) → List (List ℕ)
texts pages = map (λ page. page.items) pages

-- the bytes of a record, of which callers need no more
unfoldable pub record_text : Record → List ℕ
record_text r = record_bytes r

-- ---- records into pages

-- a page has at most so many bytes, but for one with a single record
abbrev pub page_limit : ℕ
page_limit = 65_536

-- a page has room for a record of so many bytes
abbrev pub has_room : List ℕ → ℕ → Bool
has_room page size = nat_le (length page + size) page_limit

-- the last page has room for one
abbrev pub last_has_room : List (List ℕ) → ℕ → Bool
last_has_room [] size = false
last_has_room (page ∷ []) size = has_room page size
last_has_room (page ∷ next ∷ pages) size = last_has_room (next ∷ pages) size

-- the number of the page behind one: its own number, and one for each of its records, as a number of 64 bits
abbrev pub number_behind : List ℕ → ℕ
number_behind page = (page_number page + length (page_records Two page)) % 2 ^ 64

-- the number of the page behind some: as many records as they have
abbrev pub next_number : List (List ℕ) → ℕ
next_number [] = 0
next_number (page ∷ []) = number_behind page
next_number (page ∷ next ∷ pages) = next_number (next ∷ pages)

-- a page with this number and one record
abbrev pub page_with : ℕ → List ℕ → List ℕ
page_with number text = page_front number ++ text

-- a record behind the last page, which is this one
abbrev pub last_with : List ℕ → List ℕ → List (List ℕ)
last_with last text =
    if has_room last (length text) then (last ++ text) ∷ [] else last ∷ page_with (number_behind last) text ∷ []

-- One record more: a new page begins where it would carry the last one past the limit.
abbrev pub with_text : List (List ℕ) → List ℕ → List (List ℕ)
with_text [] text = page_with 0 text ∷ []
with_text (page ∷ []) text = last_with page text
with_text (page ∷ next ∷ pages) text = page ∷ with_text (next ∷ pages) text

-- records more, one by one
abbrev pub with_records : List (List ℕ) → List Record → List (List ℕ)
with_records pages [] = pages
with_records pages (r ∷ rs) = with_records (with_text pages (record_text r)) rs

-- ---- pages cut back

-- how many bytes the last page has, 0 where there is none
abbrev pub last_size : List (List ℕ) → ℕ
last_size [] = 0
last_size (page ∷ []) = length page
last_size (page ∷ next ∷ pages) = last_size (next ∷ pages)

-- so many bytes of the last page
abbrev pub last_cut : ℕ → List (List ℕ) → List (List ℕ)
last_cut bytes [] = []
last_cut bytes (page ∷ []) = take bytes page ∷ []
last_cut bytes (page ∷ next ∷ pages) = page ∷ last_cut bytes (next ∷ pages)

-- the first pages, and so many bytes of the last of them
abbrev pub cut_back : ℕ → ℕ → List (List ℕ) → List (List ℕ)
cut_back count bytes pages = last_cut bytes (take count pages)

-- pages are what they were, with records more behind
pub record IsMoreOf (before now : List (List ℕ)) : Type 0 where
  pub records : List Record
  pub same : now ≡ with_records before records
