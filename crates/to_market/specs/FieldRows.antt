-- What the tables judge of a field, over the field alone, and what a field that no row refuses says. The rows
-- themselves stand in `order_law`; `proofs/Fields.antt` and `proofs/ReplaceFields.antt` have that these are what they
-- judge of a message's tags.
use Rattle.std.specs.Prelude.{◌≡◌, ℕ, Bool, true, false, not, nat_le, List, Option, Some, None, option_map, Result, Ok}
use Rattle.std.specs.Prelude.{[], ◌∷◌, Err, slice_index, if◌then◌else◌, bytes_eq, codes}
use Rattle.std.specs.List.{list_any}
use Rattle.std.specs.Result.{result_unwrap_or}
use Rattle.fixed_point.specs.Decimal.{price, quantity}
use Rattle.fixed_point.specs.declared.refusal.DecimalRefusal.{DecimalRefusal}
use Rattle.fixed_point.specs.declared.refusal.DecimalRefusal.TheVariants.{NotFloat, NotExact, OutOfRange}
use Rattle.order_law.specs.Asks.{LifeTime, Day, Immediate}
use Rattle.order_law.specs.Verdicts.{Row}
use Rattle.to_market.specs.declared.refusal.Refusal.{Refusal}
use Rattle.to_market.specs.declared.refusal.Refusal.TheVariants as refusals
use Rattle.to_market.specs.Refusals.{code_of, refusal_text}

abbrev letter : List ℕ → ℕ
letter name = slice_index name 0

-- a value is one of these
abbrev pub is_among : List (List ℕ) → List ℕ → Bool
is_among wanted value = list_any (λ text. bytes_eq value text) wanted

-- a value that is there isn't one of these
abbrev pub is_none_of : List (List ℕ) → Option (List ℕ) → Bool
is_none_of wanted None = false
is_none_of wanted (Some value) = not (is_among wanted value)

-- 59=3 and 59=4 live for an instant, anything else for the day
abbrev pub life_time : Option (List ℕ) → LifeTime
life_time None = Day
life_time (Some value) = if is_among (codes "3" ∷ codes "4" ∷ []) value then Immediate else Day

-- 59=4
abbrev pub is_fill_or_kill : Option (List ℕ) → Bool
is_fill_or_kill None = false
is_fill_or_kill (Some value) = bytes_eq value (codes "4")

-- 18=6 isn't displayed
abbrev pub display : Option (List ℕ) → ℕ
display None = letter (codes "Y")
display (Some value) = if bytes_eq value (codes "6") then letter (codes "P") else letter (codes "Y")

-- 110, where it is there
abbrev pub minimum : Option (List ℕ) → ℕ
minimum None = 0
minimum (Some value) = result_unwrap_or (quantity 0 value) 0

-- what a new order says of it, by 59, its total and its 110: a fill or kill order its total
abbrev pub minimum_said : Option (List ℕ) → ℕ → ℕ → ℕ
minimum_said value total least = if is_fill_or_kill value then total else least

-- a number that was read, up to this many
abbrev pub is_up_to : ℕ → Result ℕ DecimalRefusal → Bool
is_up_to most (Ok n) = nat_le n most
is_up_to most (Err refusal) = false

-- 110 is there and no number from 0 to the total
abbrev pub is_no_minimum : ℕ → Option (List ℕ) → Bool
is_no_minimum total None = false
is_no_minimum total (Some value) = not (is_up_to total (quantity 0 value))

-- a price that was refused by its range
abbrev pub is_out_of_range : Result ℕ DecimalRefusal → Bool
is_out_of_range (Ok n) = false
is_out_of_range (Err NotFloat) = false
is_out_of_range (Err NotExact) = false
is_out_of_range (Err OutOfRange) = true

-- a row of new orders that gives this refusal
abbrev pub refusal_row : Bool → Refusal → Row
refusal_row holds refusal = record { holds = holds; code = code_of refusal; why = refusal_text refusal }

-- 44, where it is there, as a price
abbrev pub price_read : Option (List ℕ) → Option (Result ℕ DecimalRefusal)
price_read value = option_map (λ t. price t) value

-- a price that can't be taken as it was read is refused so
abbrev pub RefusesPrice : Option (Result ℕ DecimalRefusal) → Refusal → Type 0
RefusesPrice None refusal = refusal ≡ refusals.PriceMissing
RefusesPrice (Some (Ok n)) refusal = ⊥
RefusesPrice (Some (Err NotFloat)) refusal = refusal ≡ refusals.PriceNotExact
RefusesPrice (Some (Err NotExact)) refusal = refusal ≡ refusals.PriceNotExact
RefusesPrice (Some (Err OutOfRange)) refusal = refusal ≡ refusals.PriceOutOfRange
