-- Records in the order of a page, as a list.
use Rattle.std.specs.Prelude.{◌≡◌, ◌<◌, ◌^◌, true, List, [], ◌∷◌, Option, None}
use Rattle.journal_pages.specs.declared.fault.PageFault.{PageFault}
use Rattle.journal_pages.specs.declared.place.Place.{Place}
use Rattle.journal_pages.specs.Record.{Record, is_sound}
use Rattle.journal_pages.specs.Page.{fault_at, place_after, unless}

-- the first thing that is wrong with records behind a place, by where they stand
abbrev pub order_fault : Place → List Record → Option PageFault
order_fault place [] = None
order_fault place (r ∷ rs) = unless (fault_at place r) (order_fault (place_after place r) rs)

-- the place behind records
abbrev pub place_behind : Place → List Record → Place
place_behind place [] = place
place_behind place (r ∷ rs) = place_behind (place_after place r) rs

-- each has what its kind has
abbrev pub AreSound : List Record → Type 0
AreSound [] = Unit {0}
AreSound (r ∷ rs) = (is_sound r ≡ true) × AreSound rs

-- a record whose bytes say it: it has what its kind has, and its numbers have the room that a head gives them
pub record IsWritable (r : Record) : Type 0 where
  pub source : r.source < 2 ^ 16
  pub link : r.link < 2 ^ 64
  pub at : r.at < 2 ^ 64
  pub sound : is_sound r ≡ true

abbrev pub AreWritable : List Record → Type 0
AreWritable [] = Unit {0}
AreWritable (r ∷ rs) = IsWritable r × AreWritable rs
