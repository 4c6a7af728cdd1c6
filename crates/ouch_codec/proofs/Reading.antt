-- Which bytes are a message of a layout, field by field.
use Rattle.std.proofs.Common.{◌≡◌, ℕ, ◌+◌, ◌^◌, ◌<◌, ◌≤◌, true, List, [], ◌∷◌, ◌++◌, length, take, drop, get_or, refl}
use Rattle.std.proofs.Common.{sym, ap, subst, ◌∙◌, arith, inl, inr, suc, zero, false, Option, None, Some}
use Rattle.std.specs.Option.{IsSome}
use Rattle.std.proofs.lemmas.Bool.{false≢true}
use Rattle.std.specs.Prelude.{◌==◌, ◌&&◌, ◌↔◌, nat_le, slice_index, MatchOption}
use Rattle.std.specs.Int.{w32, w64, from_be_bytes}
use Rattle.std.proofs.lemmas.Bool.{cases_lt}
use Rattle.std.proofs.lemmas.Bool.Decides.{nat_tests}
use Rattle.std.proofs.lemmas.List.{take-append-drop, length-take, length-drop, length-take-le, get_or-take, get_or-drop}
use Rattle.std.proofs.lemmas.List.{get_or_past, drop-drop, drop_more}
use Rattle.std.proofs.lemmas.Nat.{be_bytes_4, be_bytes_8}
use Rattle.wire_law.specs.Printable.{is_printable}
use Rattle.ouch_codec.specs.declared.layout.Kind.{Kind}
use Rattle.ouch_codec.specs.declared.layout.Kind.TheVariants.{Constant, SideLetter, OrderStateLetter, Printable, Text}
use Rattle.ouch_codec.specs.declared.layout.Kind.TheVariants.{Shares, IntendedShares, Number, LongNumber}
use Rattle.ouch_codec.specs.declared.side.Side.{Side}
use Rattle.ouch_codec.specs.declared.order_state.OrderState.{OrderState}
use Rattle.ouch_codec.specs.Letters.{is_side, side_letter, is_order_state, order_state_letter}
use Rattle.ouch_codec.specs.LetterLaws.{side_of_byte, side_letter-of, side_from_letter, is_side-letter, order_state_of}
use Rattle.ouch_codec.specs.LetterLaws.{order_state_letter-of, order_state_of_letter, is_order_state-letter}
use Rattle.ouch_codec.specs.Layout.{width, total, is_in, IsMessage, Value, IsFieldValue, written_field, RowValues}
use Rattle.ouch_codec.specs.Layout.{AreValues, spelled}
use Rattle.ouch_codec.specs.LayoutLaws.{same_pair}
use Rattle.ouch_codec.specs.Reading.{field_bytes, value_at, Reads}
pub use Rattle.ouch_codec.specs.RowReading.{AreBytes, row_at, AreValues-row_at, first_of-byte, spelled-row_at}
use Rattle.ouch_codec.specs.RowReading.{further}

-- each value of a row is what the field at its offset says
abbrev pub AreRead : (kinds : List Kind) → RowValues kinds → ℕ → List ℕ → Type 0
AreRead [] row at bs = Unit {0}
AreRead (kind ∷ kinds) row at bs = (row.0 ≡ value_at kind at bs) × AreRead kinds row.1 (at + width kind) bs

read_row : (kinds : List Kind) (row : RowValues kinds) (at : ℕ) (bs : List ℕ) → AreRead kinds row at bs
    → row ≡ row_at kinds at bs
read_row [] row at bs read = refl
read_row (kind ∷ kinds) row at bs read = same_pair row.0 (value_at kind at bs) row.1
    (row_at kinds (at + width kind) bs) read.0 (read_row kinds row.1 (at + width kind) bs read.1)

-- a row of what a message says is written as the message
pub spelled-read : (kinds : List Kind) (row : RowValues kinds) (bs : List ℕ) → AreBytes bs → IsMessage kinds bs
    → AreRead kinds row 0 bs → spelled kinds row ≡ bs
spelled-read kinds row bs below message read = ap (spelled kinds) (read_row kinds row 0 bs read)
    ∙ spelled-row_at kinds 0 bs below message

-- the fields from an offset on are in their sets
abbrev pub AreInSets : List Kind → ℕ → List ℕ → Type 0
AreInSets [] at bs = Unit {0}
AreInSets (kind ∷ kinds) at bs = (is_in kind (field_bytes kind at bs) ≡ true) × AreInSets kinds (at + width kind) bs

are_in_sets : (kinds : List Kind) (at : ℕ) (bs : List ℕ) → IsMessage kinds (drop at bs) → AreInSets kinds at bs
are_in_sets [] at bs message = tt
are_in_sets (kind ∷ kinds) at bs message =
    (message.1, are_in_sets kinds (at + width kind) bs (further kind kinds at bs message.2))

length-message : (kinds : List Kind) (bs : List ℕ) → IsMessage kinds bs → length bs ≡ total kinds
length-message [] bs message = ap length message
length-message (kind ∷ kinds) bs message =
    omega (arith, message.0, length-drop (width kind) bs, length-message kinds (drop (width kind) bs) message.2)

none_left : (bs : List ℕ) → length bs ≡ 0 → bs ≡ []
none_left [] none = refl
none_left (b ∷ bs) none = absurd (omega arith)

message_of : (kinds : List Kind) (at : ℕ) (bs : List ℕ) → length (drop at bs) ≡ total kinds → AreInSets kinds at bs
    → IsMessage kinds (drop at bs)
message_of [] at bs long in_sets = none_left (drop at bs) long
message_of (kind ∷ kinds) at bs long in_sets =
    let left : length (drop (at + width kind) bs) ≡ total kinds =
    omega (arith, long, length-drop at bs, length-drop (at + width kind) bs) in (
      omega (arith, long),
      in_sets.0,
      subst (IsMessage kinds) (sym (drop-drop (width kind) at bs))
          (message_of kinds (at + width kind) bs left in_sets.1),
    )

-- bytes that are as many as a message has are one just where each field is in its set
pub message-in_sets : (kinds : List Kind) (bs : List ℕ) → length bs ≡ total kinds → AreInSets kinds 0 bs
    → IsMessage kinds bs
message-in_sets kinds bs = message_of kinds 0 bs

pub in_sets-message : (kinds : List Kind) (bs : List ℕ) → IsMessage kinds bs
    → (length bs ≡ total kinds) × AreInSets kinds 0 bs
in_sets-message kinds bs message = (length-message kinds bs message, are_in_sets kinds 0 bs message)

-- the field at a place, the first being 0, isn't in its set
abbrev pub FailsAt : List Kind → ℕ → ℕ → List ℕ → Type 0
FailsAt [] place at bs = ⊥
FailsAt (kind ∷ kinds) zero at bs = is_in kind (field_bytes kind at bs) ≡ false
FailsAt (kind ∷ kinds) (suc place) at bs = FailsAt kinds place (at + width kind) bs

fails : (kinds : List Kind) (place at : ℕ) (bs : List ℕ) → FailsAt kinds place at bs → AreInSets kinds at bs → ⊥
fails [] place at bs other in_sets = other
fails (kind ∷ kinds) zero at bs other in_sets = false≢true (sym other ∙ in_sets.0)
fails (kind ∷ kinds) (suc place) at bs other in_sets = fails kinds place (at + width kind) bs other in_sets.1

-- bytes with a field that isn't in its set are no message
pub no_message : (kinds : List Kind) (place : ℕ) (bs : List ℕ) → FailsAt kinds place 0 bs → IsMessage kinds bs → ⊥
no_message kinds place bs other message = fails kinds place 0 bs other (are_in_sets kinds 0 bs message)

-- nothing is given for bytes that are no message
pub nothing : (P : Type 0) → (P → ⊥) → (false ≡ true) ↔ P
nothing P other = (λ some. absurd (false≢true some), λ p. absurd (other p))

pub no_value : {M : Type 0} (result : Option M) (P : Type 0) → result ≡ None → (P → ⊥) → IsSome result ↔ P
no_value result P none other = rw none (nothing P other)

-- what is answered of a letter is what a reader of its field answers
pub reads-side : (at : ℕ) (bs : List ℕ) (result : Option Side)
    → MatchOption result (is_side (slice_index bs at) ≡ false) (λ side. side_letter side ≡ slice_index bs at)
    → Reads SideLetter at bs result
reads-side at bs None other = ap is_side (first_of-byte at bs) ∙ other
reads-side at bs (Some side) e = (
  ap is_side (first_of-byte at bs ∙ sym e)
      ∙ is_side-letter side,
  side_from_letter side _ e,
)

pub reads-order_state : (at : ℕ) (bs : List ℕ) (result : Option OrderState)
    → MatchOption result (is_order_state (slice_index bs at) ≡ false)
    (λ state. order_state_letter state ≡ slice_index bs at) → Reads OrderStateLetter at bs result
reads-order_state at bs None other = ap is_order_state (first_of-byte at bs) ∙ other
reads-order_state at bs (Some state) e = (
  ap is_order_state (first_of-byte at bs ∙ sym e)
      ∙ is_order_state-letter state,
  order_state_of_letter state _ e,
)
