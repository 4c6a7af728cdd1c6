-- What a row is written as is shown as its values are, and so is each message.
use Rattle.std.proofs.Common.{◌≡◌, ℕ, List, [], ◌∷◌, ◌++◌, refl, sym, ap, ◌∙◌, arith}
use Rattle.std.proofs.lemmas.List.{take_at, drop_at}
use Rattle.std.proofs.lemmas.Nat.{from_be_bytes-to_be_bytes_4, from_be_bytes-to_be_bytes_8}
use Rattle.ouch_codec.specs.declared.layout.Kind.{Kind}
use Rattle.ouch_codec.specs.declared.layout.Kind.TheVariants.{Constant, SideLetter, OrderStateLetter, Printable, Text}
use Rattle.ouch_codec.specs.declared.layout.Kind.TheVariants.{Shares, IntendedShares, Number, LongNumber}
use Rattle.ouch_codec.specs.Letters.{side_letter, order_state_letter}
use Rattle.ouch_codec.specs.Layout.{width, Value, IsFieldValue, written_field, RowValues, AreValues, spelled}
use Rattle.ouch_codec.specs.LayoutLaws.{length-field}
use Rattle.ouch_codec.specs.LaidOut.{LaidOut, written}
use Rattle.gate_lines.specs.Words.{word, letter, shown_number}
use Rattle.gate_lines.specs.Layouts.{shown_layout_field, shown_layout_fields}

-- a value as it is shown
abbrev pub shown_value : (kind : Kind) → Value kind → List ℕ
shown_value (Constant byte) v = letter byte
shown_value SideLetter v = letter (side_letter v)
shown_value OrderStateLetter v = letter (order_state_letter v)
shown_value Printable v = letter v
shown_value (Text bytes) v = word v
shown_value Shares v = shown_number v
shown_value IntendedShares v = shown_number v
shown_value Number v = shown_number v
shown_value LongNumber v = shown_number v

abbrev pub shown_row : (kinds : List Kind) → RowValues kinds → List ℕ
shown_row [] row = []
shown_row (kind ∷ kinds) row = shown_value kind row.0 ++ shown_row kinds row.1

shown-field : (kind : Kind) (v : Value kind) → IsFieldValue kind v
    → shown_layout_field kind (written_field kind v) ≡ shown_value kind v
shown-field (Constant byte) v known = refl
shown-field SideLetter v known = refl
shown-field OrderStateLetter v known = refl
shown-field Printable v known = refl
shown-field (Text bytes) v known = refl
shown-field Shares v known = ap shown_number (from_be_bytes-to_be_bytes_4 v (omega (arith, known.1)))
shown-field IntendedShares v known = ap shown_number (from_be_bytes-to_be_bytes_4 v (omega (arith, known)))
shown-field Number v known = ap shown_number (from_be_bytes-to_be_bytes_4 v known)
shown-field LongNumber v known = ap shown_number (from_be_bytes-to_be_bytes_8 v known)

shown-spelled : (kinds : List Kind) (row : RowValues kinds) → AreValues kinds row
    → shown_layout_fields kinds (spelled kinds row) ≡ shown_row kinds row
shown-spelled [] row known = refl
shown-spelled (kind ∷ kinds) row known =
    let len = length-field kind row.0 known.0 in
    rw (
      take_at (written_field kind row.0) (spelled kinds row.1) (width kind) len,
      drop_at (written_field kind row.0)
          (spelled kinds row.1) (width kind) len,
    )
    (ap (λ (x : List ℕ). x ++ shown_layout_fields kinds (spelled kinds row.1)) (shown-field kind row.0 known.0)
    ∙ ap (λ (x : List ℕ). shown_value kind row.0 ++ x) (shown-spelled kinds row.1 known.1))

-- what is shown of the bytes of a message is its row
pub shown-written : {M : Type 0} {kinds : List Kind} (laid_out : LaidOut M kinds) (m : M) (bytes : List ℕ)
    → written laid_out m ≡ bytes
    → shown_layout_fields kinds bytes ≡ shown_row kinds (laid_out.row m)
shown-written {M} {kinds} laid_out m bytes e = ap (shown_layout_fields kinds) (sym e)
    ∙ shown-spelled kinds (laid_out.row m) (laid_out.known m)
