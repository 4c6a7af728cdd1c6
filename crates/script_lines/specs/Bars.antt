-- Texts in which `|` stands for SOH.
use Rattle.std.specs.Prelude.{ℕ, ◌==◌, List, [], ◌∷◌, ◌++◌, map, if◌then◌else◌}

-- each `|` is an SOH
abbrev pub soh_for_bars : List ℕ → List ℕ
soh_for_bars text = map (λ byte. if byte == 124 then 1 else byte) text

-- and one more stands behind
abbrev pub with_soh : List ℕ → List ℕ
with_soh text = soh_for_bars text ++ 1 ∷ []
