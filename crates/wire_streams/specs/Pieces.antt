-- What a step over a piece of a stream does to the piece, to the line that it is cut for, and to the stream.
use Rattle.std.specs.Prelude.{◌≡◌, ◌≢◌, ℕ, List, [], ◌∷◌, ◌++◌, All, Bool, true, false, Option}
use Rattle.std.specs.Io.KnownBytes.{Consumes, IsAtEnd}

-- a line's bytes: none is a newline
abbrev pub HasNoNewline : List ℕ → Type 0
HasNoNewline text = All (λ byte. byte ≢ 10) text

-- the line has these bytes more, to the newline, which is passed over; or to the end of the piece
abbrev pub IsCut : List ℕ → List ℕ → List ℕ → Bool → Type 0
IsCut piece rest part true = piece ≡ part ++ 10 ∷ rest
IsCut piece rest part false = (piece ≡ part) × (rest ≡ [])

abbrev pub TakesLine : List ℕ → List ℕ → List ℕ → List ℕ → Bool → Type 0
TakesLine piece line rest longer whole =
    (part : List ℕ) × (longer ≡ line ++ part) × HasNoNewline part × IsCut piece rest part whole

-- the piece is what the reader gave, and where no more may come it is at its end
abbrev pub ReadsPiece : Option (List ℕ) → Option (List ℕ) → List ℕ → Bool → Type 0
ReadsPiece old new piece true = Consumes old new piece
ReadsPiece old new piece false = Consumes old new piece × IsAtEnd new × (piece ≡ [])
