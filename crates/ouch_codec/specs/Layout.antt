-- What a layout is: which bytes are a message, and which bytes stand for a row of values.
-- The layouts themselves are in `Layouts.antt`.
use Rattle.std.specs.Prelude.{◌≡◌, ℕ, ◌+◌, ◌≤◌, ◌<◌, ◌^◌, List, [], ◌∷◌, ◌++◌, length, take, drop, Bool, true, ◌&&◌}
use Rattle.std.specs.Prelude.{◌==◌, nat_le, slice_index}
use Rattle.std.specs.List.{list_all}
use Rattle.std.specs.Int.{w32, w64, to_be_bytes, from_be_bytes}
use Rattle.wire_law.specs.Limits.{most_shares}
use Rattle.wire_law.specs.Printable.{is_printable, ArePrintable}
use Rattle.ouch_codec.specs.declared.side.Side.{Side}
use Rattle.ouch_codec.specs.declared.order_state.OrderState.{OrderState}
use Rattle.ouch_codec.specs.declared.layout.Kind.{Kind}
use Rattle.ouch_codec.specs.declared.layout.Kind.TheVariants.{Constant, SideLetter, OrderStateLetter, Printable, Text}
use Rattle.ouch_codec.specs.declared.layout.Kind.TheVariants.{Shares, IntendedShares, Number, LongNumber}
use Rattle.ouch_codec.specs.Letters.{side_letter, is_side, order_state_letter, is_order_state}

-- how many bytes a field takes
abbrev pub width : Kind → ℕ
width (Constant byte) = 1
width SideLetter = 1
width OrderStateLetter = 1
width Printable = 1
width (Text bytes) = bytes
width Shares = 4
width IntendedShares = 4
width Number = 4
width LongNumber = 8

-- these bytes, as many as the field takes, are in its set
abbrev pub is_in : Kind → List ℕ → Bool
is_in (Constant byte) bs = slice_index bs 0 == byte
is_in SideLetter bs = is_side (slice_index bs 0)
is_in OrderStateLetter bs = is_order_state (slice_index bs 0)
is_in Printable bs = is_printable (slice_index bs 0)
is_in (Text bytes) bs = list_all is_printable bs
is_in Shares bs = nat_le 1 (from_be_bytes w32 bs) && nat_le (from_be_bytes w32 bs) most_shares
is_in IntendedShares bs = nat_le (from_be_bytes w32 bs) most_shares
is_in Number bs = true
is_in LongNumber bs = true

-- what a field says
abbrev pub Value : Kind → Type 0
Value (Constant byte) = Unit {0}
Value SideLetter = Side
Value OrderStateLetter = OrderState
Value Printable = ℕ
Value (Text bytes) = List ℕ
Value Shares = ℕ
Value IntendedShares = ℕ
Value Number = ℕ
Value LongNumber = ℕ

-- a value is one that the field can say
abbrev pub IsFieldValue : (kind : Kind) → Value kind → Type 0
IsFieldValue (Constant byte) v = Unit {0}
IsFieldValue SideLetter v = Unit {0}
IsFieldValue OrderStateLetter v = Unit {0}
IsFieldValue Printable v = is_printable v ≡ true
IsFieldValue (Text bytes) v = (length v ≡ bytes) × ArePrintable v
IsFieldValue Shares v = (1 ≤ v) × (v ≤ most_shares)
IsFieldValue IntendedShares v = v ≤ most_shares
IsFieldValue Number v = v < 2 ^ 32
IsFieldValue LongNumber v = v < 2 ^ 64

-- the bytes that a value is written as
abbrev pub written_field : (kind : Kind) → Value kind → List ℕ
written_field (Constant byte) v = byte ∷ []
written_field SideLetter v = side_letter v ∷ []
written_field OrderStateLetter v = order_state_letter v ∷ []
written_field Printable v = v ∷ []
written_field (Text bytes) v = v
written_field Shares v = to_be_bytes w32 v
written_field IntendedShares v = to_be_bytes w32 v
written_field Number v = to_be_bytes w32 v
written_field LongNumber v = to_be_bytes w64 v

-- how many bytes a message has
abbrev pub total : List Kind → ℕ
total [] = 0
total (kind ∷ kinds) = width kind + total kinds

-- These bytes are a message: for each field as many as it takes, in its set, and no more.
abbrev pub IsMessage : List Kind → List ℕ → Type 0
IsMessage [] bs = bs ≡ []
IsMessage (kind ∷ kinds) bs =
    (width kind ≤ length bs)
    × (is_in kind (take (width kind) bs) ≡ true)
    × IsMessage kinds (drop (width kind) bs)

-- the same as a test
abbrev pub is_message : List Kind → List ℕ → Bool
is_message [] bs = length bs == 0
is_message (kind ∷ kinds) bs =
    nat_le (width kind) (length bs)
    && (is_in kind (take (width kind) bs) && is_message kinds (drop (width kind) bs))

-- what a message says: a value for each field, one after another
abbrev pub RowValues : List Kind → Type 0
RowValues [] = Unit {0}
RowValues (kind ∷ kinds) = Value kind × RowValues kinds

-- a value, and the values of the fields after it
infixr 20 ◌⨾◌
abbrev pub ◌⨾◌ : {A B : Type 0} → A → B → A × B
value ⨾ values = (value, values)

-- each value is one that its field can say
abbrev pub AreValues : (kinds : List Kind) → RowValues kinds → Type 0
AreValues [] row = Unit {0}
AreValues (kind ∷ kinds) row = IsFieldValue kind row.0 × AreValues kinds row.1

-- the bytes that a row is written as
abbrev pub spelled : (kinds : List Kind) → RowValues kinds → List ℕ
spelled [] row = []
spelled (kind ∷ kinds) row = written_field kind row.0 ++ spelled kinds row.1
