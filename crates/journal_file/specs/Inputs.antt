-- Files that were read of an input.
use Rattle.std.specs.Prelude.{◌⊎◌, ℕ, List, ◌++◌, Option}
use Rattle.std.specs.Io.KnownBytes.{Consumes, IsAtEnd}

-- An input was read to its end; of what it had this holds.
abbrev pub IsReadTo : Option (List ℕ) → Option (List ℕ) → (List ℕ → Type 0) → Type 0
IsReadTo known later P = (file : List ℕ) × Consumes known later file × IsAtEnd later × P file

-- An input was read so far that this holds of what it had, whatever stands behind what was read; or to its end.
abbrev pub IsJudged : Option (List ℕ) → Option (List ℕ) → (List ℕ → Type 0) → Type 0
IsJudged known later P = (read : List ℕ) × Consumes known later read
    × (((more : List ℕ) → P (read ++ more)) ⊎ (IsAtEnd later × P read))
