-- What a judge of pages knows of those that it took.
use Rattle.std.specs.Prelude.{◌≡◌, ℕ, List, Option, None}
use Rattle.journal_pages.specs.declared.place.Place.{Place}
use Rattle.journal_pages.specs.declared.place.Place.TheVariants.{BetweenBatches}
use Rattle.journal_pages.specs.declared.version.Version.{Version}
use Rattle.journal_days.specs.Begun.{begun_fault, number_of_next, place_of_last, place_of_next, place_of_records}
use Rattle.journal_days.specs.Begun.{version_seen}
use Rattle.journal_days.specs.Day.{version_of}

-- Their version, the places of the last and the next, the number of the next, and the place behind their records; and
-- nothing is wrong with them, whatever stands behind.
pub record HasJudged (version : Option Version) (last next number : ℕ) (place : Place) (pages : List (List ℕ)) : Type 0
  where
    pub named : version ≡ version_seen pages
    pub at_last : last ≡ place_of_last 0 pages
    pub at_next : next ≡ place_of_next 0 pages
    pub counted : number ≡ number_of_next 0 pages
    pub behind : place ≡ place_of_records (version_of pages) BetweenBatches pages
    pub none : begun_fault (version_of pages) pages ≡ None
