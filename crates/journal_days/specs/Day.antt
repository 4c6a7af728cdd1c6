-- Pages of a day, one behind another: whole batches, however they are cut. All are of one version; in version 2 each
-- has the number of records before it. The format is the gateway's own.
use Rattle.std.specs.Prelude.{ℕ, ◌+◌, ◌==◌, Bool, true, false, not, ◌&&◌, nat_lt, List, [], ◌∷◌, Option, Some, None}
use Rattle.std.specs.Prelude.{is_none, if◌then◌else◌}
use Rattle.std.specs.List.{flat_map}
use Rattle.journal_pages.specs.declared.fault.PageFault.{PageFault}
use Rattle.journal_pages.specs.declared.fault.PageFault.TheVariants as faults
use Rattle.journal_pages.specs.declared.place.Place.{Place}
use Rattle.journal_pages.specs.declared.place.Place.TheVariants.{PageStart, BetweenBatches, InBatch}
use Rattle.journal_pages.specs.Ordered.{order_fault, place_behind}
use Rattle.journal_pages.specs.declared.version.Version.{Version}
use Rattle.journal_pages.specs.declared.version.Version.TheVariants.{One, Two}
use Rattle.journal_pages.specs.Page.{page_fault, page_number, page_records, unless, version_named}
use Rattle.journal_pages.specs.Record.{Record}
use Rattle.journal_days.specs.Cut.{number_behind, with_records}

-- the version of a day's pages: that of the first; of none the one in which pages are written
abbrev pub version_of : List (List ℕ) → Version
version_of [] = Two
version_of (page ∷ pages) = version_named page

-- the records of pages of a version, one behind another
abbrev pub day_records : Version → List (List ℕ) → List Record
day_records version pages = flat_map (page_records version) pages

-- each of these is a page of a version
abbrev pub are_pages : Version → List (List ℕ) → Bool
are_pages version [] = true
are_pages version (page ∷ pages) = is_none (page_fault version page) && are_pages version pages

-- no batch is open
abbrev pub has_no_batch : Place → Bool
has_no_batch PageStart = false
has_no_batch BetweenBatches = true
has_no_batch (InBatch b) = false

abbrev pub is_last : List (List ℕ) → Bool
is_last [] = true
is_last (page ∷ pages) = false

-- a last page ends where its last batch does
abbrev pub end_fault : Bool → Place → Option PageFault
end_fault last place = if last && not (has_no_batch place) then Some faults.Order else None

-- a page of version 2 has the number that those before it give
abbrev pub number_fault : Version → ℕ → List ℕ → Option PageFault
number_fault One number page = None
number_fault Two number page = if page_number page == number then None else Some faults.Number

-- What is wrong with a page behind a place and so many records, be it the last or not: what is wrong with it alone
-- comes first, then its number, then what is wrong with its records behind those before.
abbrev pub page_fault_in_day : Version → Bool → ℕ → Place → List ℕ → Option PageFault
page_fault_in_day version last number place page = unless (page_fault version page)
    (unless (number_fault version number page)
    (unless (order_fault place (page_records version page))
    (end_fault last (place_behind place (page_records version page)))))

-- the number of the page behind one, from 0; behind 2^32 - 1 the number stays
abbrev pub page_behind : ℕ → ℕ
page_behind n = if nat_lt n 4_294_967_295 then n + 1 else n

abbrev pub at_page : ℕ → Option PageFault → Option (ℕ × PageFault) → Option (ℕ × PageFault)
at_page n (Some fault) later = Some (n, fault)
at_page n None later = later

-- the first page with which something is wrong, of pages behind so many records and a place, and what
abbrev pub fault_from : Version → ℕ → ℕ → Place → List (List ℕ) → Option (ℕ × PageFault)
fault_from version n number place [] = None
fault_from version n number place (page ∷ pages) =
    at_page n (page_fault_in_day version (is_last pages) number place page)
    (fault_from version (page_behind n) (number_behind page) (place_behind place (page_records version page)) pages)

-- the same of a day of a version: it begins with an event. No pages are a day on which nothing came
abbrev pub day_fault : Version → List (List ℕ) → Option (ℕ × PageFault)
day_fault version pages = fault_from version 0 0 BetweenBatches pages

-- The pages in which a day is kept: those of version 2 as they are, those of version 1 written anew.
abbrev pub kept_as : Version → List (List ℕ) → List (List ℕ)
kept_as One pages = with_records [] (day_records One pages)
kept_as Two pages = pages
