-- Parts of a message, read from its bytes by offset alone. (OUCH 4.2, "Data Types".)
use Rattle.std.specs.Prelude.{ℕ, ◌+◌, ◌*◌, List, [], ◌∷◌, take, drop, reverse, fold, ◌==◌, if◌then◌else◌, Bool, false}
use Rattle.std.specs.Prelude.{◌&&◌, bytes_eq, slice_index}
use Rattle.ouch_codec.specs.Layout.{width}
use Rattle.ouch_codec.specs.Layouts.{Line}

-- the bytes of a field
abbrev pub bytes_at : ℕ → ℕ → List ℕ → List ℕ
bytes_at offset count message = take count (drop offset message)

-- its number, the first byte the highest
abbrev pub number_at : ℕ → ℕ → List ℕ → ℕ
number_at offset count message = fold (λ n byte. 256 * n + byte) 0 (bytes_at offset count message)

-- a text without the spaces in front of it
abbrev pub without_spaces : List ℕ → List ℕ
without_spaces [] = []
without_spaces (byte ∷ bytes) = if byte == 32 then without_spaces bytes else (byte ∷ bytes)

-- a text without the spaces behind it
abbrev pub unpadded : List ℕ → List ℕ
unpadded text = reverse (without_spaces (reverse text))

-- its text, without the spaces behind it
abbrev pub text_at : ℕ → ℕ → List ℕ → List ℕ
text_at offset count message = unpadded (bytes_at offset count message)

-- its one byte
abbrev pub byte_at : ℕ → List ℕ → ℕ
byte_at offset message = slice_index message offset

-- the type of a message
abbrev pub type_of : List ℕ → ℕ
type_of message = byte_at 0 message

-- a table has the field of this name at this offset, with so many bytes
abbrev pub lies_at : List ℕ → ℕ → ℕ → List Line → Bool
lies_at name offset count [] = false
lies_at name offset count (l ∷ ls) =
    if bytes_eq l.name name then (l.offset == offset && width l.kind == count) else lies_at name offset count ls
