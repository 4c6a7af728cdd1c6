-- How a reading meets what is refused.
use Rattle.std.specs.Prelude.{◌≡◌, ⊤, ℕ, List, Option, None, Some, Result, Ok, Err, string_bytes}
use Rattle.operator_settings.specs.declared.fault.OperatorFault.{OperatorFault}
use Rattle.operator_settings.specs.declared.fault.OperatorFault.TheVariants as faults

-- it answers something where nothing is refused, and a key just where this key is; want of memory says nothing
abbrev pub Judges : {T : Type 0} → Option (List ℕ) → Result T OperatorFault → Type 0
Judges key (Ok given) = key ≡ None
Judges key (Err (faults.Refused k)) = key ≡ Some (string_bytes k)
Judges key (Err faults.NoMemory) = ⊤

-- it names this key, unless memory ran out
abbrev pub IsRefusalOf : List ℕ → OperatorFault → Type 0
IsRefusalOf key (faults.Refused k) = string_bytes k ≡ key
IsRefusalOf key faults.NoMemory = ⊤
