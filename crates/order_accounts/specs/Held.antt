-- Readings whose numbers integers hold: 32 bits for what is open, 128 bits for every other.
use Rattle.std.specs.Prelude.{ℕ, ◌<◌, ◌^◌, List, [], ◌∷◌, if◌then◌else◌}
use Rattle.order_law.specs.fix_fields.Field.{Message}
use Rattle.order_law.specs.Reading.{Fill, Reading, is_report_on, reading, with_report}

abbrev pub AreHeldPrices : List Fill → Type 0
AreHeldPrices [] = Unit {0}
AreHeldPrices (f ∷ fs) = (f.price < 2 ^ 128) × AreHeldPrices fs

pub record IsHeld (x : Reading) : Type 0 where
  pub total : x.total < 2 ^ 128
  pub unfilled : x.unfilled < 2 ^ 32
  pub executed : x.executed < 2 ^ 128
  pub cancelled : x.cancelled < 2 ^ 128
  pub value : x.value < 2 ^ 128
  pub prices : AreHeldPrices x.fills

-- what was read is held after each of these reports, the newest first
abbrev pub StaysHeld : List ℕ → List Message → Type 0
StaysHeld order [] = Unit {0}
StaysHeld order (r ∷ earlier) = IsHeld (reading order (r ∷ earlier)) × StaysHeld order earlier

-- what one message more makes of what was read of an order: a step of its reading
abbrev pub heard_on : List ℕ → Reading → Message → Reading
heard_on order x r = if is_report_on order r then with_report x r else x
