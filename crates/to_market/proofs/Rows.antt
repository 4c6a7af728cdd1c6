-- First rows: of two tables one after the other, and of the rows on a price.
use Rattle.std.proofs.Common.{◌≡◌, ℕ, Bool, true, false, List, [], ◌∷◌, ◌++◌, refl}
use Rattle.std.specs.Prelude.{◌&&◌, not, Option, Some, None, Result, Ok, Err, is_ok, is_some, unwrap_or, if◌then◌else◌}
use Rattle.fixed_point.specs.Decimal.{price}
use Rattle.fixed_point.specs.declared.refusal.DecimalRefusal.{DecimalRefusal}
use Rattle.fixed_point.specs.declared.refusal.DecimalRefusal.TheVariants.{NotFloat, NotExact, OutOfRange}
use Rattle.order_law.specs.Verdicts.{Row, Verdict, Accepted, Refused, first_row}
use Rattle.to_market.specs.declared.refusal.Refusal.{Refusal}
use Rattle.to_market.specs.declared.refusal.Refusal.TheVariants as refusals
use Rattle.to_market.specs.FieldRows.{RefusesPrice, is_out_of_range, price_read, refusal_row}
use Rattle.to_market.specs.Refusals.{refused_by, request_refused_by}

-- the second verdict where the first accepts
abbrev pub follows : Verdict → Verdict → Verdict
follows Accepted v = v
follows (Refused code why) v = Refused code why

step : (holds : Bool) (code : ℕ) (why : List ℕ) (all first more : Verdict) → all ≡ follows first more
    → (if holds then Refused code why else all) ≡ follows (if holds then Refused code why else first) more
step true code why all first more e = refl
step false code why all first more e = e

pub first_row-append : (rows more : List Row) → first_row (rows ++ more) ≡ follows (first_row rows) (first_row more)
first_row-append [] more = refl
first_row-append (r ∷ rows) more = step r.holds r.code r.why (first_row (rows ++ more)) (first_row rows)
    (first_row more) (first_row-append rows more)

-- the rows on 44, which have one code in either table
abbrev pub price_rows : Bool → Result ℕ DecimalRefusal → List Row
price_rows is_missing read =
    refusal_row is_missing refusals.PriceMissing
    ∷ refusal_row (not (is_ok read) && not (is_out_of_range read)) refusals.PriceNotExact
    ∷ refusal_row (is_out_of_range read) refusals.PriceOutOfRange
    ∷ []

-- the same of a field's value
abbrev pub price_rows_of : Option (List ℕ) → List Row
price_rows_of value = price_rows (not (is_some value)) (price (unwrap_or value []))

pub price-taken : (value : Option (List ℕ)) (limit : ℕ) → price_read value ≡ Some (Ok limit)
    → first_row (price_rows_of value) ≡ Accepted
price-taken None limit read = absurd cc
price-taken (Some t) limit read = by_price (price t) cc
  where
    by_price : (r : Result ℕ DecimalRefusal) → r ≡ Ok limit → first_row (price_rows false r) ≡ Accepted
    by_price (Ok n) e = refl
    by_price (Err refusal) e = absurd cc

pub price-limit : (value : Option (List ℕ)) (limit : ℕ) → price_read value ≡ Some (Ok limit)
    → ◌≡◌ {A = Result ℕ DecimalRefusal} (price (unwrap_or value [])) (Ok limit)
price-limit None limit read = absurd cc
price-limit (Some t) limit read = cc

-- a refused price is so by both tables
pub price-refused : (value : Option (List ℕ)) (refusal : Refusal) → RefusesPrice (price_read value) refusal
    → first_row (price_rows_of value) ≡ refused_by refusal
price-refused None refusal h = rw h refl
price-refused (Some t) refusal h = by_price (price t) h
  where
    by_price : (r : Result ℕ DecimalRefusal) → RefusesPrice (Some r) refusal
        → first_row (price_rows false r) ≡ refused_by refusal
    by_price (Ok n) e = absurd e
    by_price (Err NotFloat) e = rw e refl
    by_price (Err NotExact) e = rw e refl
    by_price (Err OutOfRange) e = rw e refl

pub price-refused_request : (value : Option (List ℕ)) (refusal : Refusal) → RefusesPrice (price_read value) refusal
    → first_row (price_rows_of value) ≡ request_refused_by refusal
price-refused_request None refusal h = rw h refl
price-refused_request (Some t) refusal h = by_price (price t) h
  where
    by_price : (r : Result ℕ DecimalRefusal) → RefusesPrice (Some r) refusal
        → first_row (price_rows false r) ≡ request_refused_by refusal
    by_price (Ok n) e = absurd e
    by_price (Err NotFloat) e = rw e refl
    by_price (Err NotExact) e = rw e refl
    by_price (Err OutOfRange) e = rw e refl
