-- What the steps of reading a text give: numbers that stop at a cap, above every amount.
use Rattle.std.specs.Prelude.{ℕ, ◌+◌, ◌*◌, ◌^◌, if◌then◌else◌, List, length, min, Option, None, Some, Result, Ok, Err}
use Rattle.std.specs.Char.{is_ascii_digit}
use Rattle.std.specs.List.{list_all}
use Rattle.wire_bytes.specs.Digits.{number_of}
use Rattle.fixed_point.specs.declared.refusal.DecimalRefusal.{DecimalRefusal}
use Rattle.fixed_point.specs.declared.refusal.DecimalRefusal.TheVariants.{NotFloat, NotExact}
use Rattle.fixed_point.specs.Decimal.{Fraction, scaled}

-- stands for itself and all above
abbrev pub cap : ℕ
cap = 100_000_000_000

abbrev pub capped : ℕ → ℕ
capped n = min n cap

-- the number that these digits make behind those of `start`, if they are digits
unfoldable pub read_on : ℕ → List ℕ → Option ℕ
read_on start digits =
    if list_all is_ascii_digit digits then Some (capped (start * 10 ^ length digits + number_of digits)) else None

abbrev pub capped_size : Option ℕ → Result ℕ DecimalRefusal
capped_size None = Err NotExact
capped_size (Some n) = Ok (capped n)

-- how many 1 / `scale` a fraction is without its sign
unfoldable pub scaled_size : ℕ → Option Fraction → Result ℕ DecimalRefusal
scaled_size scale None = Err NotFloat
scaled_size scale (Some f) = capped_size (scaled scale f)
