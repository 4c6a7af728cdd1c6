-- What a text says lies in range, and what is worth a price in range says it.
use Rattle.std.proofs.Common.{◌≡◌, ℕ, ◌≤◌, Bool, true, false, List, refl, ap, arith}
use Rattle.std.proofs.lemmas.Bool.Decides.{nat_tests}
use Rattle.std.specs.Prelude.{◌||◌, nat_lt, if◌then◌else◌, Option, None, Some, Result, Ok, Err}
use Rattle.fixed_point.specs.declared.refusal.DecimalRefusal.{DecimalRefusal}
use Rattle.fixed_point.specs.declared.refusal.DecimalRefusal.TheVariants.{OutOfRange}
use Rattle.fixed_point.specs.Decimal.{most_price, most_shares, Fraction, scaled, fraction, within, amount_of, amount}
use Rattle.fixed_point.specs.Decimal.{price, quantity, is_below_zero, not_below_zero, worth_of, worth}
use Rattle.fixed_point.specs.Price.{price_text}
use Rattle.fixed_point.proofs.Printed.{worth_of_price_text}

if_ok : (test : Bool) (refusal : DecimalRefusal) (m n : ℕ)
    → ◌≡◌ {A = Result ℕ DecimalRefusal} (if test then Err refusal else Ok m) (Ok n) → (test ≡ false) × (m ≡ n)
if_ok true refusal m n e = absurd cc
if_ok false refusal m n e = (refl, cc)

if_some : (test : Bool) (m n : ℕ) → ◌≡◌ {A = Option ℕ} (if test then None else Some m) (Some n)
    → (test ≡ false) × (m ≡ n)
if_some true m n e = absurd cc
if_some false m n e = (refl, cc)

neither : (a b c : Bool) → (a || (b || c)) ≡ false → (b ≡ false) × (c ≡ false)
neither true b c e = absurd cc
neither false true c e = absurd cc
neither false false c e = (refl, e)

within_range : (least most n : ℕ) (negative : Bool) (o : Option ℕ) → within least most negative o ≡ Ok n
    → (least ≤ n) × (n ≤ most)
unfolding within
within_range least most n negative None e = absurd cc
within_range least most n negative (Some m) e =
    let parts = if_ok (is_below_zero negative m || (nat_lt m least || nat_lt most m)) OutOfRange m n e in
    let tests = neither (is_below_zero negative m) (nat_lt m least) (nat_lt most m) parts.0 in
    let same = parts.1 in
    let low = tests.0 in
    let high = tests.1 in
    (grind (arith, nat_tests), grind (arith, nat_tests))

amount_of_range : (scale least most n : ℕ) (o : Option Fraction) → amount_of scale least most o ≡ Ok n
    → (least ≤ n) × (n ≤ most)
unfolding amount_of
amount_of_range scale least most n None e = absurd cc
amount_of_range scale least most n (Some f) e = within_range least most n f.negative (scaled scale f) e

pub price_range : (text : List ℕ) (n : ℕ) → price text ≡ Ok n → (1 ≤ n) × (n ≤ most_price)
unfolding price amount
price_range text n e = amount_of_range 10_000 1 most_price n (fraction text) e

pub quantity_range : (least : ℕ) (text : List ℕ) (n : ℕ) → quantity least text ≡ Ok n → (least ≤ n) × (n ≤ most_shares)
unfolding quantity amount
quantity_range least text n e = amount_of_range 1 least most_shares n (fraction text) e

within_of_worth : (least most n : ℕ) (negative : Bool) (o : Option ℕ) → not_below_zero negative o ≡ Some n → least ≤ n
    → n ≤ most → within least most negative o ≡ Ok n
unfolding within
within_of_worth least most n negative None e low high = absurd cc
within_of_worth least most n negative (Some m) e low high =
    let parts = if_some (is_below_zero negative m) m n e in
    let same = parts.1 in
    let one : nat_lt m least ≡ false = grind (arith, nat_tests) in
    let two : nat_lt most m ≡ false = grind (arith, nat_tests) in
    rw (parts.0, one, two) (ap Ok same)

amount_of_worth : (n : ℕ) (o : Option Fraction) → worth_of o ≡ Some n → 1 ≤ n → n ≤ most_price
    → amount_of 10_000 1 most_price o ≡ Ok n
unfolding worth_of amount_of
amount_of_worth n None e low high = absurd cc
amount_of_worth n (Some f) e low high = within_of_worth 1 most_price n f.negative (scaled 10_000 f) e low high

price_of_worth : (text : List ℕ) (n : ℕ) → worth text ≡ Some n → 1 ≤ n → n ≤ most_price → price text ≡ Ok n
unfolding worth price amount
price_of_worth text n e low high = amount_of_worth n (fraction text) e low high

pub price_of_price_text : (n : ℕ) → 1 ≤ n → n ≤ most_price → price (price_text n) ≡ Ok n
price_of_price_text n low high = price_of_worth (price_text n) n (worth_of_price_text n (omega arith)) low high
