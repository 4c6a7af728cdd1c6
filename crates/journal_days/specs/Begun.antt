-- Pages with which a day begins: others may stand behind them. The format is the gateway's own.
use Rattle.std.specs.Prelude.{ℕ, List, [], ◌∷◌, Option, Some, None, false}
use Rattle.journal_pages.specs.declared.fault.PageFault.{PageFault}
use Rattle.journal_pages.specs.declared.place.Place.{Place}
use Rattle.journal_pages.specs.declared.place.Place.TheVariants.{BetweenBatches}
use Rattle.journal_pages.specs.declared.version.Version.{Version}
use Rattle.journal_pages.specs.Ordered.{place_behind}
use Rattle.journal_pages.specs.Page.{page_records, version_named}
use Rattle.journal_days.specs.Cut.{number_behind}
use Rattle.journal_days.specs.Day.{at_page, page_behind, page_fault_in_day}

-- the first page with which something is wrong, of pages behind so many records and a place, and what; none of them
-- need be the last
abbrev pub begun_from : Version → ℕ → ℕ → Place → List (List ℕ) → Option (ℕ × PageFault)
begun_from version n number place [] = None
begun_from version n number place (page ∷ pages) =
    at_page n (page_fault_in_day version false number place page)
    (begun_from version (page_behind n) (number_behind page) (place_behind place (page_records version page)) pages)

-- The same of the first pages of a day: where something is wrong with them, it is whatever stands behind them.
abbrev pub begun_fault : Version → List (List ℕ) → Option (ℕ × PageFault)
begun_fault version pages = begun_from version 0 0 BetweenBatches pages

-- ---- where pages end

-- the version that the first of them names
abbrev pub version_seen : List (List ℕ) → Option Version
version_seen [] = None
version_seen (page ∷ pages) = Some (version_named page)

-- the place of the page behind them, of which the first has this one
abbrev pub place_of_next : ℕ → List (List ℕ) → ℕ
place_of_next n [] = n
place_of_next n (page ∷ pages) = place_of_next (page_behind n) pages

-- the place of the last of them
abbrev pub place_of_last : ℕ → List (List ℕ) → ℕ
place_of_last n [] = n
place_of_last n (page ∷ []) = n
place_of_last n (page ∷ next ∷ pages) = place_of_last (page_behind n) (next ∷ pages)

-- the number of the page behind them
abbrev pub number_of_next : ℕ → List (List ℕ) → ℕ
number_of_next number [] = number
number_of_next number (page ∷ pages) = number_of_next (number_behind page) pages

-- the place behind their records
abbrev pub place_of_records : Version → Place → List (List ℕ) → Place
place_of_records version place [] = place
place_of_records version place (page ∷ pages) =
    place_of_records version (place_behind place (page_records version page)) pages
