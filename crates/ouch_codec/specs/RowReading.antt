-- For any layout: the row that the bytes of a message say, each field read at its offset. It is values of its fields,
-- and is written as the message.
use Rattle.std.proofs.Common.{◌≡◌, ℕ, ◌+◌, ◌^◌, ◌<◌, ◌≤◌, true, List, [], ◌∷◌, ◌++◌, length, take, drop, get_or, refl}
use Rattle.std.proofs.Common.{sym, ap, subst, ◌∙◌, arith, inl, inr, suc, zero, false, Option, None, Some}
use Rattle.std.specs.Option.{IsSome}
use Rattle.std.proofs.lemmas.Bool.{false≢true}
use Rattle.std.specs.Prelude.{◌==◌, ◌&&◌, ◌↔◌, nat_le, slice_index, MatchOption}
use Rattle.std.specs.Int.{w32, w64, from_be_bytes}
use Rattle.std.proofs.lemmas.Bool.{cases_lt}
use Rattle.std.proofs.lemmas.Bool.Decides.{nat_tests}
use Rattle.std.proofs.lemmas.List.{take-append-drop, length-take, length-drop, length-take-le, get_or-take, get_or-drop}
use Rattle.std.proofs.lemmas.List.{get_or_past, drop-drop, drop_more}
use Rattle.std.proofs.lemmas.Nat.{be_bytes_4, be_bytes_8}
use Rattle.wire_law.specs.Limits.{most_shares}
use Rattle.wire_law.specs.Printable.{is_printable}
use Rattle.ouch_codec.specs.declared.layout.Kind.{Kind}
use Rattle.ouch_codec.specs.declared.layout.Kind.TheVariants.{Constant, SideLetter, OrderStateLetter, Printable, Text}
use Rattle.ouch_codec.specs.declared.layout.Kind.TheVariants.{Shares, IntendedShares, Number, LongNumber}
use Rattle.ouch_codec.specs.declared.side.Side.{Side}
use Rattle.ouch_codec.specs.declared.order_state.OrderState.{OrderState}
use Rattle.ouch_codec.specs.Letters.{is_side, side_letter, is_order_state, order_state_letter}
use Rattle.ouch_codec.specs.LetterLaws.{side_of_byte, side_letter-of, side_from_letter, is_side-letter, order_state_of}
use Rattle.ouch_codec.specs.LetterLaws.{order_state_letter-of, order_state_of_letter, is_order_state-letter}
use Rattle.ouch_codec.specs.Layout.{width, total, is_in, IsMessage, Value, IsFieldValue, written_field, RowValues}
use Rattle.ouch_codec.specs.Layout.{AreValues, spelled}
use Rattle.ouch_codec.specs.LayoutLaws.{same_pair}
use Rattle.ouch_codec.specs.Reading.{field_bytes, value_at, Reads}

-- each element is below 256, as the bytes of a slice are
abbrev pub AreBytes : List ℕ → Type 0
AreBytes bs = (i : ℕ) → get_or bs i 0 < 256

-- what the fields from an offset on say
abbrev pub row_at : (kinds : List Kind) → ℕ → List ℕ → RowValues kinds
row_at [] at bs = tt
row_at (kind ∷ kinds) at bs = (value_at kind at bs, row_at kinds (at + width kind) bs)

AreBytes-part : (n at : ℕ) (bs : List ℕ) → AreBytes bs → AreBytes (take n (drop at bs))
AreBytes-part n at bs below i =
    elim (cases_lt i n) [
      | inl lt ↦ rw (get_or-take n (drop at bs) i 0 lt, get_or-drop at bs i 0) (below (at + i))
      | inr le ↦ rw (get_or_past (take n (drop at bs)) i 0 (omega (arith, length-take n (drop at bs)))) (omega arith)
    ]

-- one byte at an offset
byte_at : (at : ℕ) (bs : List ℕ) → 1 ≤ length (drop at bs) → take 1 (drop at bs) ≡ get_or bs at 0 ∷ []
byte_at at bs long = rw (drop_more bs at 0 (omega (arith, length-drop at bs))) refl

pub first_of-byte : (at : ℕ) (bs : List ℕ) → get_or (take 1 (drop at bs)) 0 0 ≡ get_or bs at 0
first_of-byte at bs = get_or-take 1 (drop at bs) 0 0 (omega arith) ∙ get_or-drop at bs 0 0
    ∙ ap (λ i. get_or bs i 0) (omega arith)

same_constant : (b c : ℕ) → (b == c) ≡ true → b ≡ c
same_constant b c same = grind (arith, nat_tests)

-- what a field says is written as the field
field-value_at : (kind : Kind) (at : ℕ) (bs : List ℕ) → AreBytes bs → width kind ≤ length (drop at bs)
    → is_in kind (take (width kind) (drop at bs)) ≡ true
    → written_field kind (value_at kind at bs) ≡ take (width kind) (drop at bs)
field-value_at (Constant byte) at bs below long in_set =
    sym (byte_at at bs long ∙ ap (λ b. b ∷ []) (sym (first_of-byte at bs)
    ∙ same_constant (get_or (take 1 (drop at bs)) 0 0) byte in_set))
field-value_at SideLetter at bs below long in_set =
    ap (λ b. b ∷ []) (side_letter-of (get_or bs at 0) (sym (ap is_side (first_of-byte at bs)) ∙ in_set))
    ∙ sym (byte_at at bs long)
field-value_at OrderStateLetter at bs below long in_set =
    ap (λ b. b ∷ []) (order_state_letter-of (get_or bs at 0) (sym (ap is_order_state (first_of-byte at bs)) ∙ in_set))
    ∙ sym (byte_at at bs long)
field-value_at Printable at bs below long in_set = sym (byte_at at bs long)
field-value_at (Text bytes) at bs below long in_set = refl
field-value_at Shares at bs below long in_set = be_bytes_4 (take 4 (drop at bs)) _
    (length-take-le 4 (drop at bs) long) (AreBytes-part 4 at bs below) refl
field-value_at IntendedShares at bs below long in_set = be_bytes_4 (take 4 (drop at bs)) _
    (length-take-le 4 (drop at bs) long) (AreBytes-part 4 at bs below) refl
field-value_at Number at bs below long in_set = be_bytes_4 (take 4 (drop at bs)) _
    (length-take-le 4 (drop at bs) long) (AreBytes-part 4 at bs below) refl
field-value_at LongNumber at bs below long in_set = be_bytes_8 (take 8 (drop at bs)) _
    (length-take-le 8 (drop at bs) long) (AreBytes-part 8 at bs below) refl

number_below : (bs : List ℕ) → AreBytes bs → from_be_bytes w32 bs < 2 ^ 32
number_below bs below = omega (arith, below 0, below 1, below 2, below 3)

long_number_below : (bs : List ℕ) → AreBytes bs → from_be_bytes w64 bs < 2 ^ 64
long_number_below bs below = omega (arith, below 0, below 1, below 2, below 3, below 4, below 5, below 6, below 7)

shares_within : (n : ℕ) → (nat_le 1 n && nat_le n most_shares) ≡ true → (1 ≤ n) × (n ≤ most_shares)
shares_within n in_set = (grind (arith, nat_tests), grind (arith, nat_tests))

intended_shares_within : (n : ℕ) → nat_le n most_shares ≡ true → n ≤ most_shares
intended_shares_within n in_set = grind (arith, nat_tests)

-- what a field says is a value of the field
IsValue-value_at : (kind : Kind) (at : ℕ) (bs : List ℕ) → AreBytes bs → width kind ≤ length (drop at bs)
    → is_in kind (take (width kind) (drop at bs)) ≡ true → IsFieldValue kind (value_at kind at bs)
IsValue-value_at (Constant byte) at bs below long in_set = tt
IsValue-value_at SideLetter at bs below long in_set = tt
IsValue-value_at OrderStateLetter at bs below long in_set = tt
IsValue-value_at Printable at bs below long in_set = sym (ap is_printable (first_of-byte at bs)) ∙ in_set
IsValue-value_at (Text bytes) at bs below long in_set = (length-take-le bytes (drop at bs) long, in_set)
IsValue-value_at Shares at bs below long in_set = shares_within (from_be_bytes w32 (take 4 (drop at bs))) in_set
IsValue-value_at IntendedShares at bs below long in_set = intended_shares_within
    (from_be_bytes w32 (take 4 (drop at bs))) in_set
IsValue-value_at Number at bs below long in_set = number_below (take 4 (drop at bs)) (AreBytes-part 4 at bs below)
IsValue-value_at LongNumber at bs below long in_set = long_number_below (take 8 (drop at bs))
    (AreBytes-part 8 at bs below)

pub further : (kind : Kind) (kinds : List Kind) (at : ℕ) (bs : List ℕ)
    → IsMessage kinds (drop (width kind) (drop at bs)) → IsMessage kinds (drop (at + width kind) bs)
further kind kinds at bs message = subst (IsMessage kinds) (drop-drop (width kind) at bs) message

-- what a message says are values of its fields
pub AreValues-row_at : (kinds : List Kind) (at : ℕ) (bs : List ℕ) → AreBytes bs → IsMessage kinds (drop at bs)
    → AreValues kinds (row_at kinds at bs)
AreValues-row_at [] at bs below message = tt
AreValues-row_at (kind ∷ kinds) at bs below message = (
  IsValue-value_at kind at bs below message.0 message.1,
  AreValues-row_at kinds (at + width kind) bs below
      (further kind kinds at bs message.2),
)

-- what a message says is written as the message
pub spelled-row_at : (kinds : List Kind) (at : ℕ) (bs : List ℕ) → AreBytes bs → IsMessage kinds (drop at bs)
    → spelled kinds (row_at kinds at bs) ≡ drop at bs
spelled-row_at [] at bs below message = sym message
spelled-row_at (kind ∷ kinds) at bs below message =
    ap (λ (t : List ℕ). t ++ spelled kinds (row_at kinds (at + width kind) bs))
    (field-value_at kind at bs below message.0 message.1)
    ∙ ap (λ (t : List ℕ). take (width kind) (drop at bs) ++ t)
    (spelled-row_at kinds (at + width kind) bs below (further kind kinds at bs message.2)
    ∙ sym (drop-drop (width kind) at bs))
    ∙ take-append-drop (width kind) (drop at bs)
