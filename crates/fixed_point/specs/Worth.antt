-- A worth as an integer of 128 bits has it.
use Rattle.std.specs.Prelude.{ℕ, ◌^◌, nat_lt, if◌then◌else◌, Option, None, Some, Result, Ok, Err}
use Rattle.fixed_point.specs.declared.worth.WorthRefusal.{WorthRefusal}
use Rattle.fixed_point.specs.declared.worth.WorthRefusal.TheVariants.{NoWorth, TooLarge}

-- the number itself, where it is below 2 ^ 128
unfoldable pub counted : Option ℕ → Result ℕ WorthRefusal
counted None = Err NoWorth
counted (Some n) = if nat_lt n (2 ^ 128) then Ok n else Err TooLarge
