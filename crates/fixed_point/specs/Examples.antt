-- Texts and what they say, computed from the definitions.
use Rattle.std.specs.Prelude.{◌≡◌, refl, codes, None, Some, Ok, Err}
use Rattle.std.specs.Fmt.{digits}
use Rattle.fixed_point.specs.declared.refusal.DecimalRefusal.TheVariants.{NotFloat, NotExact, OutOfRange}
use Rattle.fixed_point.specs.Decimal.{price, quantity, amount, amount_of, within, scaled, fraction, worth, worth_of}
use Rattle.fixed_point.specs.Price.{price_text}

-- what a price says, in 1/10,000
prices :
    (price (codes "23.") ≡ Ok 230_000)  -- nothing behind the point
    × (price (codes "0023.4500") ≡ Ok 234_500)  -- zeros on both sides
    × (price (codes ".5") ≡ Ok 5_000)  -- nothing before the point
    × (price (codes "0.0001") ≡ Ok 1)  -- the least
    × (price (codes "199999.99") ≡ Ok 1_999_999_900)  -- the greatest
    × (price (codes "199999.9901") ≡ Err OutOfRange)  -- above the greatest
    × (price (codes "0") ≡ Err OutOfRange)  -- below the least
    × (price (codes "-1") ≡ Err OutOfRange)  -- below zero
    × (price (codes "23.45001") ≡ Err NotExact)  -- finer than the unit
    × (price (codes "10.00005") ≡ Err NotExact)  -- half a unit
    × (price (codes "-23.45001") ≡ Err NotExact)  -- finer, and below zero
    × (price (codes "23.45001x") ≡ Err NotFloat)  -- no float, and finer
    × (price (codes "") ≡ Err NotFloat)  -- no digit
    × (price (codes ".") ≡ Err NotFloat)  -- no digit
    × (price (codes "-") ≡ Err NotFloat)  -- no digit
    × (price (codes "1.2.3") ≡ Err NotFloat)  -- two points
    × (price (codes "--1") ≡ Err NotFloat)  -- two signs
    × (price (codes "+1") ≡ Err NotFloat)  -- a plus sign
    × (price (codes "1e2") ≡ Err NotFloat)  -- an exponent
unfolding price amount amount_of within scaled fraction
prices =
    (refl, refl, refl, refl, refl, refl, refl, refl, refl, refl, refl, refl, refl, refl, refl, refl, refl, refl, refl)

-- what a quantity says, in shares
quantities :
    (quantity 1 (codes "300.0") ≡ Ok 300)  -- zeros behind the point
    × (quantity 1 (codes "300.5") ≡ Err NotExact)  -- half a share
    × (quantity 1 (codes "999999") ≡ Ok 999_999)  -- the greatest
    × (quantity 1 (codes "1000000") ≡ Err OutOfRange)  -- above the greatest
    × (quantity 1 (codes "0") ≡ Err OutOfRange)  -- below the least
    × (quantity 0 (codes "-0") ≡ Ok 0)  -- minus zero is zero
unfolding quantity amount amount_of within scaled fraction
quantities = (refl, refl, refl, refl, refl, refl)

-- what a text is worth, in 1/10,000
worths :
    (worth (codes "1000000.5") ≡ Some 10_000_005_000)  -- above the range of a price
    × (worth (codes "-0.0") ≡ Some 0)  -- minus zero is zero
    × (worth (codes "-0.5") ≡ None)  -- below zero
    × (worth (codes "0.00001") ≡ None)  -- finer than the unit
    × (worth (codes "x") ≡ None)  -- no float
unfolding worth worth_of scaled fraction
worths = (refl, refl, refl, refl, refl)

-- the one text of a number of 1/10,000
printed :
    (price_text 234_500 ≡ codes "23.45")  -- no zeros at the end
    × (price_text 230_000 ≡ codes "23")  -- no point
    × (price_text 5_000 ≡ codes "0.5")  -- a zero before the point
    × (price_text 10_500 ≡ codes "1.05")  -- a zero behind the point
    × (price_text 0 ≡ codes "0")  -- nothing
unfolding price_text digits
printed = (refl, refl, refl, refl, refl)
