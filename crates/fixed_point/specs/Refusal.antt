-- The numbers of the refusals.
use Rattle.std.specs.Prelude.{ℕ}
use Rattle.fixed_point.specs.declared.refusal.DecimalRefusal.{DecimalRefusal}
use Rattle.fixed_point.specs.declared.refusal.DecimalRefusal.TheVariants.{NotFloat, NotExact, OutOfRange}

abbrev pub decimal_refusal_number : DecimalRefusal → ℕ
decimal_refusal_number NotFloat = 1
decimal_refusal_number NotExact = 2
decimal_refusal_number OutOfRange = 3
