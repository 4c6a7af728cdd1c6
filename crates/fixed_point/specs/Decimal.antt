-- Decimal texts, the fractions that they denote, and the amounts that are read from them.
--
-- Source: FIX 4.4 Volume 1, data type float: an optional minus sign, digits and at most one point; no exponent and no
-- plus sign. Zeros in front and behind change nothing.
use Rattle.std.specs.Prelude.{ℕ, ◌*◌, ◌/◌, ◌%◌, ◌^◌, Bool, false, ◌&&◌, ◌||◌, ◌==◌, nat_lt, if◌then◌else◌, List, []}
use Rattle.std.specs.Prelude.{◌∷◌, ◌++◌, length, Option, None, Some, Result, Ok, Err}
use Rattle.std.specs.Char.{is_ascii_digit}
use Rattle.std.specs.List.{list_all, before_first, after_first}
use Rattle.wire_bytes.specs.Digits.{number_of}
pub use Rattle.wire_law.specs.Limits.{most_shares}
use Rattle.fixed_point.specs.declared.refusal.DecimalRefusal.{DecimalRefusal}
use Rattle.fixed_point.specs.declared.refusal.DecimalRefusal.TheVariants.{NotFloat, NotExact, OutOfRange}

-- `digits` / 10 ^ `places`, below zero where it is `negative`
pub record Fraction : Type 0 where
  pub negative : Bool
  pub digits : ℕ
  pub places : ℕ

abbrev pub is_point : ℕ → Bool
is_point byte = byte == 46

-- a minus sign stands in front
abbrev pub is_negative : List ℕ → Bool
is_negative [] = false
is_negative (byte ∷ bytes) = byte == 45

abbrev pub without_sign : List ℕ → List ℕ
without_sign [] = []
without_sign (byte ∷ bytes) = if byte == 45 then bytes else (byte ∷ bytes)

-- what stands before the first point, or all where there is none
abbrev pub whole : List ℕ → List ℕ
whole text = before_first is_point text

-- what stands behind the first point, or nothing where there is none
abbrev pub behind : List ℕ → List ℕ
behind text = after_first is_point text

-- one digit or more, and nothing else
abbrev pub are_digits : List ℕ → Bool
are_digits bytes = nat_lt 0 (length bytes) && list_all is_ascii_digit bytes

-- the fraction that these bytes denote before and behind the point, if they are digits
abbrev pub fraction_of : Bool → List ℕ → List ℕ → Option Fraction
fraction_of negative front back =
    if are_digits (front ++ back)
    then Some (record { negative = negative; digits = number_of (front ++ back); places = length back })
    else None

-- the fraction that a text denotes, if it is a float
unfoldable pub fraction : List ℕ → Option Fraction
fraction text = fraction_of (is_negative text) (whole (without_sign text)) (behind (without_sign text))

-- how many 1 / `scale` a fraction is without its sign, where that is a whole number
unfoldable pub scaled : ℕ → Fraction → Option ℕ
scaled scale f =
    if (scale * f.digits) % 10 ^ f.places == 0
    then Some (scale * f.digits / 10 ^ f.places)
    else None

-- below zero: `-0` is not
abbrev pub is_below_zero : Bool → ℕ → Bool
is_below_zero negative n = negative && nat_lt 0 n

-- what becomes of a size, if there is one: an amount where it is from `least` to `most` and not below zero
unfoldable pub within : ℕ → ℕ → Bool → Option ℕ → Result ℕ DecimalRefusal
within least most negative None = Err NotExact
within least most negative (Some n) =
    if is_below_zero negative n || (nat_lt n least || nat_lt most n) then Err OutOfRange else Ok n

-- what becomes of a fraction, if there is one
unfoldable pub amount_of : ℕ → ℕ → ℕ → Option Fraction → Result ℕ DecimalRefusal
amount_of scale least most None = Err NotFloat
amount_of scale least most (Some f) = within least most f.negative (scaled scale f)

-- What a text says in 1 / `scale`: a whole number from `least` to `most`, or the first refusal that holds.
unfoldable pub amount : ℕ → ℕ → ℕ → List ℕ → Result ℕ DecimalRefusal
amount scale least most text = amount_of scale least most (fraction text)

-- the greatest price, in 1/10,000: 199,999.99 (OUCH 4.2, "Data Types", price)
abbrev pub most_price : ℕ
most_price = 1_999_999_900

-- The price that a text says, in 1/10,000. The range is the market's.
unfoldable pub price : List ℕ → Result ℕ DecimalRefusal
price text = amount 10_000 1 most_price text

-- The number of shares that a text says, `least` or more.
unfoldable pub quantity : ℕ → List ℕ → Result ℕ DecimalRefusal
quantity least text = amount 1 least most_shares text

-- a size, if there is one and it is not below zero
abbrev pub not_below_zero : Bool → Option ℕ → Option ℕ
not_below_zero negative None = None
not_below_zero negative (Some n) = if is_below_zero negative n then None else Some n

-- what a fraction is worth, if there is one
unfoldable pub worth_of : Option Fraction → Option ℕ
worth_of None = None
worth_of (Some f) = not_below_zero f.negative (scaled 10_000 f)

-- How many 1/10,000 a text denotes, however many, if it is a float, exact and not below zero. Reports carry any price.
unfoldable pub worth : List ℕ → Option ℕ
worth text = worth_of (fraction text)
