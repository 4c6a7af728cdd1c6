-- Text in HTML, byte by byte.
--
-- Source: HTML Living Standard, "Character references", "Writing HTML documents".
use Rattle.std.specs.Prelude.{ℕ, ◌==◌, Bool, ◌&&◌, nat_le, List, [], ◌∷◌, codes, if◌then◌else◌}
use Rattle.std.specs.List.{flat_map}

-- printable ASCII
abbrev pub is_shown : ℕ → Bool
is_shown byte = nat_le 32 byte && nat_le byte 126

-- what stands for a byte: of those that HTML reads as more than themselves a reference, of any other that isn't
-- printable ASCII a dot
abbrev pub escaped_byte : ℕ → List ℕ
escaped_byte byte =
    if byte == 38 then codes "&amp;"
    else if byte == 60 then codes "&lt;"
    else if byte == 62 then codes "&gt;"
    else if byte == 34 then codes "&quot;"
    else if byte == 39 then codes "&#39;"
    else if is_shown byte then byte ∷ []
    else codes "."

abbrev pub escaped : List ℕ → List ℕ
escaped text = flat_map escaped_byte text
