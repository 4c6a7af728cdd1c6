-- For any layout: what a row is written as is a message, and no two rows are written as the same bytes.
use Rattle.std.proofs.Common.{◌≡◌, ℕ, ◌+◌, ◌^◌, ◌<◌, ◌≤◌, true, List, [], ◌∷◌, ◌++◌, length, take, drop, refl, sym, ap}
use Rattle.std.proofs.Common.{◌∙◌, arith}
use Rattle.std.proofs.lemmas.List.{take_at, drop_at, length-append}
use Rattle.std.proofs.lemmas.Bool.Decides.{nat_tests}
use Rattle.std.proofs.lemmas.Nat.{from_be_bytes-to_be_bytes_4, from_be_bytes-to_be_bytes_8}
use Rattle.std.proofs.Props.{props}
use Rattle.std.specs.Prelude.{◌==◌, ◌&&◌, nat_le, slice_index}
use Rattle.std.specs.Int.{w32, w64, to_be_bytes, from_be_bytes}
use mathlib.Core.HLevel.{Σ_prop_path}
use Rattle.wire_law.specs.Limits.{most_shares}
use Rattle.ouch_codec.specs.declared.layout.Kind.{Kind}
use Rattle.ouch_codec.specs.declared.layout.Kind.TheVariants.{Constant, SideLetter, OrderStateLetter, Printable, Text}
use Rattle.ouch_codec.specs.declared.layout.Kind.TheVariants.{Shares, IntendedShares, Number, LongNumber}
use Rattle.ouch_codec.specs.LetterLaws.{is_side-letter, side_of_byte, side_of-letter, is_order_state-letter}
use Rattle.ouch_codec.specs.LetterLaws.{order_state_of, order_state_of-letter}
use Rattle.ouch_codec.specs.Layout.{width, total, is_in, IsMessage, Value, IsFieldValue, written_field, RowValues}
use Rattle.ouch_codec.specs.Layout.{AreValues, spelled}

shares_pass : (n : ℕ) → 1 ≤ n → n ≤ most_shares → (nat_le 1 n && nat_le n most_shares) ≡ true
shares_pass n least most = grind (arith, nat_tests)

intended_shares_pass : (n : ℕ) → n ≤ most_shares → nat_le n most_shares ≡ true
intended_shares_pass n most = grind (arith, nat_tests)

same_byte : (n : ℕ) → (n == n) ≡ true
same_byte n = grind (arith, nat_tests)

-- a field takes as many bytes as its kind says
pub length-field : (kind : Kind) (v : Value kind) → IsFieldValue kind v → length (written_field kind v) ≡ width kind
length-field (Constant byte) v known = refl
length-field SideLetter v known = refl
length-field OrderStateLetter v known = refl
length-field Printable v known = refl
length-field (Text bytes) v known = known.0
length-field Shares v known = refl
length-field IntendedShares v known = refl
length-field Number v known = refl
length-field LongNumber v known = refl

is_in-field : (kind : Kind) (v : Value kind) → IsFieldValue kind v → is_in kind (written_field kind v) ≡ true
is_in-field (Constant byte) v known = same_byte byte
is_in-field SideLetter v known = is_side-letter v
is_in-field OrderStateLetter v known = is_order_state-letter v
is_in-field Printable v known = known
is_in-field (Text bytes) v known = known.1
is_in-field Shares v known = rw (from_be_bytes-to_be_bytes_4 v (omega arith)) (shares_pass v known.0 known.1)
is_in-field IntendedShares v known = rw (from_be_bytes-to_be_bytes_4 v (omega arith)) (intended_shares_pass v known)
is_in-field Number v known = refl
is_in-field LongNumber v known = refl

-- each row takes as many bytes as its layout
pub length-spelled : (kinds : List Kind) (row : RowValues kinds) → AreValues kinds row
    → length (spelled kinds row) ≡ total kinds
length-spelled [] row known = refl
length-spelled (kind ∷ kinds) row known = length-append (written_field kind row.0) (spelled kinds row.1)
    ∙ ap (λ n. n + length (spelled kinds row.1)) (length-field kind row.0 known.0)
    ∙ ap (λ n. width kind + n) (length-spelled kinds row.1 known.1)

-- what a row is written as is a message
pub IsMessage-spelled : (kinds : List Kind) (row : RowValues kinds) → AreValues kinds row
    → IsMessage kinds (spelled kinds row)
IsMessage-spelled [] row known = refl
IsMessage-spelled (kind ∷ kinds) row known =
    let len = length-field kind row.0 known.0 in (
      omega (arith, length-append (written_field kind row.0) (spelled kinds row.1)),
      rw
          (take_at (written_field kind row.0) (spelled kinds row.1) (width kind) len)
          (is_in-field kind row.0 known.0),
      rw (drop_at (written_field kind row.0) (spelled kinds row.1)
          (width kind) len) (IsMessage-spelled kinds row.1 known.1),
    )

-- fields of one length in front of equal bytes are equal, and so is what follows
parts : (xs ys us vs : List ℕ) → length xs ≡ length ys → xs ++ us ≡ ys ++ vs → (xs ≡ ys) × (us ≡ vs)
parts xs ys us vs len e = (
  sym (take_at xs us (length ys) len) ∙ ap (take (length ys)) e
      ∙ take_at ys vs (length ys) refl,
  sym (drop_at xs us (length ys) len) ∙ ap (drop (length ys)) e
      ∙ drop_at ys vs (length ys) refl,
)

same_number : (m n : ℕ) → m < 2 ^ 32 → n < 2 ^ 32 → to_be_bytes w32 m ≡ to_be_bytes w32 n → m ≡ n
same_number m n m-below n-below e = sym (from_be_bytes-to_be_bytes_4 m m-below) ∙ ap (from_be_bytes w32) e
    ∙ from_be_bytes-to_be_bytes_4 n n-below

same_long_number : (m n : ℕ) → m < 2 ^ 64 → n < 2 ^ 64 → to_be_bytes w64 m ≡ to_be_bytes w64 n → m ≡ n
same_long_number m n m-below n-below e = sym (from_be_bytes-to_be_bytes_8 m m-below) ∙ ap (from_be_bytes w64) e
    ∙ from_be_bytes-to_be_bytes_8 n n-below

same_value : (kind : Kind) (v w : Value kind) → IsFieldValue kind v → IsFieldValue kind w
    → written_field kind v ≡ written_field kind w → v ≡ w
same_value (Constant byte) v w v-known w-known e = refl
same_value SideLetter v w v-known w-known e = sym (side_of-letter v) ∙ ap (λ bs. side_of_byte (slice_index bs 0)) e
    ∙ side_of-letter w
same_value OrderStateLetter v w v-known w-known e = sym (order_state_of-letter v)
    ∙ ap (λ bs. order_state_of (slice_index bs 0)) e ∙ order_state_of-letter w
same_value Printable v w v-known w-known e = cc
same_value (Text bytes) v w v-known w-known e = e
same_value Shares v w v-known w-known e = same_number v w (omega arith) (omega arith) e
same_value IntendedShares v w v-known w-known e = same_number v w (omega arith) (omega arith) e
same_value Number v w v-known w-known e = same_number v w v-known w-known e
same_value LongNumber v w v-known w-known e = same_long_number v w v-known w-known e

pub same_pair : {A B : Type 0} (a x : A) (b y : B) → a ≡ x → b ≡ y → ◌≡◌ {A = A × B} (a, b) (x, y)
same_pair a x b y e f = cc

-- no two rows are written as the same bytes
same_row : (kinds : List Kind) (row other : RowValues kinds) → AreValues kinds row → AreValues kinds other
    → spelled kinds row ≡ spelled kinds other → row ≡ other
same_row [] row other known other-known e = refl
same_row (kind ∷ kinds) row other known other-known e =
    let p = parts (written_field kind row.0) (written_field kind other.0) (spelled kinds row.1)
    (spelled kinds other.1) (length-field kind row.0 known.0 ∙ sym (length-field kind other.0 other-known.0)) e in
    same_pair row.0 other.0 row.1 other.1 (same_value kind row.0 other.0 known.0 other-known.0 p.0)
    (same_row kinds row.1 other.1 known.1 other-known.1 p.1)

IsValue-prop : (kind : Kind) (v : Value kind) → IsProp (IsFieldValue kind v)
IsValue-prop (Constant byte) v = hlevel props
IsValue-prop SideLetter v = hlevel props
IsValue-prop OrderStateLetter v = hlevel props
IsValue-prop Printable v = hlevel props
IsValue-prop (Text bytes) v = hlevel props
IsValue-prop Shares v = hlevel props
IsValue-prop IntendedShares v = hlevel props
IsValue-prop Number v = hlevel props
IsValue-prop LongNumber v = hlevel props

AreValues-prop : (kinds : List Kind) (row : RowValues kinds) → IsProp (AreValues kinds row)
AreValues-prop [] row = hlevel props
AreValues-prop (kind ∷ kinds) row = hlevel (props, IsValue-prop kind row.0, AreValues-prop kinds row.1)

-- A type whose values are the rows of a layout, as `row`, `known` and `make` show, has no two values that are written
-- as the same bytes.
pub same_message : {M : Type 0} (kinds : List Kind)
    (row : M → RowValues kinds)
    (known : (m : M) → AreValues kinds (row m))
    (make : (r : RowValues kinds) → AreValues kinds r → M)
    (made : (m : M) → make (row m) (known m) ≡ m)
    (m n : M) → spelled kinds (row m) ≡ spelled kinds (row n) → m ≡ n
same_message kinds row known make made m n e =
    let same : row m ≡ row n = same_row kinds (row m) (row n) (known m) (known n) e in
    sym (made m) ∙ ap (λ (q : (r : RowValues kinds) × AreValues kinds r). make q.0 q.1)
    (Σ_prop_path {A = RowValues kinds} {B = AreValues kinds}
    (AreValues-prop kinds) {u = (row m, known m)} {v = (row n, known n)} same) ∙ made n
