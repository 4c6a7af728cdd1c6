-- How many links a line's opener has opened, and whether there is no further one.
use Rattle.std.specs.Prelude.{ℕ}
use Rattle.gateway_log.specs.declared.run_opener.RunOpener.{RunOpener}
use Rattle.gateway_log.specs.declared.run_opener.RunOpener.TheVariants as openers

abbrev pub run_opened : {A C : Type 0} → (A → ℕ) → (C → ℕ) → RunOpener A C → ℕ
run_opened of_client of_port (openers.Client links) = of_client links
run_opened of_client of_port (openers.Port links) = of_port links

abbrev pub run_ended : {A C : Type 0} → (A → Type 0) → (C → Type 0) → RunOpener A C → Type 0
run_ended of_client of_port (openers.Client links) = of_client links
run_ended of_client of_port (openers.Port links) = of_port links
