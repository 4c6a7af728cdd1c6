-- The bytes that a text on the wire is made of.
use Rattle.std.specs.Prelude.{◌≡◌, ℕ, List, Bool, true, nat_le, ◌&&◌}
use Rattle.std.specs.List.{list_all}

-- A byte that the market takes in a text: a space, or an ASCII character that is seen. (OUCH 4.2, "Data Types", alpha.)
abbrev pub is_printable : ℕ → Bool
is_printable byte = nat_le 32 byte && nat_le byte 126

-- each byte of a text is one of them
abbrev pub ArePrintable : List ℕ → Type 0
ArePrintable text = list_all is_printable text ≡ true

-- A byte of a name: an ASCII character that is seen, so no space.
abbrev pub is_visible : ℕ → Bool
is_visible byte = nat_le 33 byte && nat_le byte 126
