-- A field of a message, read at its offset: its bytes, what they say, and what a reader of the field answers.
use Rattle.std.specs.Prelude.{◌≡◌, ℕ, List, take, drop, true, false, Option, MatchOption, slice_index}
use Rattle.std.specs.Int.{w32, w64, from_be_bytes}
use Rattle.ouch_codec.specs.declared.layout.Kind.{Kind}
use Rattle.ouch_codec.specs.declared.layout.Kind.TheVariants.{Constant, SideLetter, OrderStateLetter, Printable, Text}
use Rattle.ouch_codec.specs.declared.layout.Kind.TheVariants.{Shares, IntendedShares, Number, LongNumber}
use Rattle.ouch_codec.specs.LetterLaws.{side_of_byte, order_state_of}
use Rattle.ouch_codec.specs.Layout.{width, is_in, Value}

-- the bytes of a field at an offset
abbrev pub field_bytes : Kind → ℕ → List ℕ → List ℕ
field_bytes kind at message = take (width kind) (drop at message)

-- what the field says
abbrev pub value_at : (kind : Kind) → ℕ → List ℕ → Value kind
value_at (Constant byte) at bs = tt
value_at SideLetter at bs = side_of_byte (slice_index bs at)
value_at OrderStateLetter at bs = order_state_of (slice_index bs at)
value_at Printable at bs = slice_index bs at
value_at (Text bytes) at bs = take bytes (drop at bs)
value_at Shares at bs = from_be_bytes w32 (take 4 (drop at bs))
value_at IntendedShares at bs = from_be_bytes w32 (take 4 (drop at bs))
value_at Number at bs = from_be_bytes w32 (take 4 (drop at bs))
value_at LongNumber at bs = from_be_bytes w64 (take 8 (drop at bs))

-- what a reader answers: what the field says, or nothing where it isn't in its set
abbrev pub Reads : (kind : Kind) → ℕ → List ℕ → Option (Value kind) → Type 0
Reads kind at message result =
    MatchOption result
    (is_in kind (field_bytes kind at message) ≡ false)
    (λ value. (is_in kind (field_bytes kind at message) ≡ true) × (value ≡ value_at kind at message))
