-- What numbers were given to, and how that can be put back.
use Rattle.std.specs.Prelude.{List}
use Rattle.session_reading.specs.session_law.Session.{Slot}

-- what callers see: what each number from 1 was given to, and how that was when it was settled last
pub record BodiesHeld : Type 0 where
  pub given : List Slot
  pub settled : List Slot
