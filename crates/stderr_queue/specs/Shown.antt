-- What a line shows of the text that it is made of.
use Rattle.std.specs.Prelude.{ℕ, Bool, List, [], ◌∷◌, ◌++◌, ◌&&◌, nat_le, nat_lt, length, if◌then◌else◌}

-- printable ASCII: from the space to the tilde
abbrev pub is_printable : ℕ → Bool
is_printable byte = nat_le 32 byte && nat_le byte 126

-- what is shown of a byte: itself, or a dot
abbrev pub shown_byte : ℕ → ℕ
shown_byte byte = if is_printable byte then byte else 46

-- a text with a byte more, unless it has 1,024
abbrev pub appended : List ℕ → ℕ → List ℕ
appended text byte = if nat_lt (length text) 1024 then text ++ byte ∷ [] else text

-- a text with what is shown of each byte of another one, up to 1,024 bytes
abbrev pub cut : List ℕ → List ℕ → List ℕ
cut text [] = text
cut text (byte ∷ bytes) = cut (appended text (shown_byte byte)) bytes
