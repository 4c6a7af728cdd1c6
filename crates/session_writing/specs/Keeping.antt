-- What is kept of the numbers that were given, where the text of all kept bodies is one list of bytes.
use Rattle.std.specs.Prelude.{◌≡◌, ℕ, ◌+◌, ◌&&◌, Bool, true, List, map, length, Some, None, slice_range, nat_le}
use Rattle.std.specs.List.{list_all}
use Rattle.session_reading.specs.session_law.Session.{Slot}
use Rattle.session_writing.specs.declared.place.KeptPlace.{KeptPlace}
use Rattle.session_writing.specs.declared.place.KeptPlace.TheVariants as places
use Rattle.fix_framing.specs.fix_fields.Printed.{fields_in, prints_fields}

-- what a number was given to, by its place in this text
abbrev pub slot_at : List ℕ → KeptPlace → Slot
slot_at text places.Filled = None
slot_at text (places.Body kind start end at) = Some (record {
  kind = kind;
  body = fields_in (slice_range text start end);
  at = at;
})

abbrev pub slots_at : List ℕ → List KeptPlace → List Slot
slots_at text kept = map (slot_at text) kept

-- it ends in a text of so many bytes, and not before it starts
abbrev pub is_within : ℕ → KeptPlace → Bool
is_within size places.Filled = true
is_within size (places.Body kind start end at) = nat_le start end && nat_le end size

-- what stands there is fields
abbrev pub prints_at : List ℕ → KeptPlace → Bool
prints_at text places.Filled = true
prints_at text (places.Body kind start end at) = prints_fields (slice_range text start end)

-- a body stands there in the text, whole
abbrev pub is_place : List ℕ → KeptPlace → Bool
is_place text kept = is_within (length text) kept && prints_at text kept

-- all these stand in the text
abbrev pub ArePlaces : List ℕ → List KeptPlace → Type 0
ArePlaces text kept = list_all (is_place text) kept ≡ true

-- the place so much further on
abbrev pub place_further : ℕ → KeptPlace → KeptPlace
place_further shift places.Filled = places.Filled
place_further shift (places.Body kind start end at) = places.Body kind (shift + start) (shift + end) at
