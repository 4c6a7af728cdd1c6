-- Moments that a clock tells, in milliseconds since 1970, and events that have them.
use Rattle.std.specs.Prelude.{◌≡◌, ℕ, ◌++◌, List, [], ◌∷◌, Option, Some, None}
use Rattle.std.specs.Io.KnownBytes.{Appends}
use Rattle.link_io.specs.Events.{Event}
use Rattle.link_decoders.specs.Making.{event_moment}
use Rattle.link_io.specs.Reading.{offered_list}

-- a clock reported these moments more, in order, where it is known which it tells
abbrev pub Tells : (reported_old reported_new : Option (List ℕ)) → (moments : List ℕ) → Type 0
Tells reported_old reported_new moments = Appends reported_old reported_new moments

-- each event has one of these moments, in the order in which they were reported
abbrev pub AreAsReported : (moments : List ℕ) → List Event → Type 0
AreAsReported moments [] = Unit {0}
AreAsReported moments (event ∷ events) =
    (before after : List ℕ) × (moments ≡ before ++ event_moment event ∷ after)
    × AreAsReported (event_moment event ∷ after) events

-- What was put and then given back begins with what was given back before; what is behind that has these moments.
abbrev pub ComesAsReported : (moments : List ℕ) → (before : Option Event) → (put : List Event) → (after : Option Event)
    → Type 0
ComesAsReported moments before put after =
    (more : List Event) × (put ++ offered_list after ≡ offered_list before ++ more) × AreAsReported moments more
