-- The bytes of a text.
use Rattle.std.specs.Prelude.{◌≤◌, ℕ, List, ⊤, take}
use Rattle.fix_fields.specs.declared.text.TextBytes.{TextBytes}
use Rattle.fix_fields.specs.declared.text.TextBytes.TheVariants.{Few, Many}

-- those that are kept
abbrev pub kept_bytes : TextBytes → List ℕ
kept_bytes (Few count bytes) = take count bytes
kept_bytes (Many bytes) = bytes.items

-- no more of them are counted than lie in the value
abbrev pub AreThere : TextBytes → Type 0
AreThere (Few count bytes) = count ≤ 16
AreThere (Many bytes) = ⊤
