-- For any type whose values are the rows of a layout: how many bytes a value takes, that they are a message, that no
-- other value has them, and what they say at the offset of a field.
use Rattle.std.proofs.Common.{◌≡◌, ℕ, true, List, length}
use Rattle.ouch_codec.specs.declared.layout.Kind.{Kind}
use Rattle.ouch_codec.specs.Layout.{total, IsMessage, is_message, RowValues, AreValues, spelled}
use Rattle.ouch_codec.specs.LayoutLaws.{length-spelled, IsMessage-spelled, same_message}
use Rattle.ouch_codec.specs.MessageLaws.{is_message-passes}
use Rattle.ouch_codec.specs.Parts.{bytes_at}
use Rattle.ouch_codec.specs.PartLaws.{bytes_at-spelled, offset_of, width_of, part}

-- the values of a type are the rows of a layout: each has a row that the fields can say, and each such row is made one
pub record LaidOut (M : Type 0) (kinds : List Kind) : Type 0 where
  pub row : M → RowValues kinds
  pub known : (m : M) → AreValues kinds (row m)
  pub make : (r : RowValues kinds) → AreValues kinds r → M
  pub made : (m : M) → make (row m) (known m) ≡ m
  pub remade : (r : RowValues kinds) (k : AreValues kinds r) → row (make r k) ≡ r

-- what a value is written as
abbrev pub written : {M : Type 0} {kinds : List Kind} → LaidOut M kinds → M → List ℕ
written {M} {kinds} laid_out m = spelled kinds (laid_out.row m)

pub length-written : {M : Type 0} {kinds : List Kind} (laid_out : LaidOut M kinds) (m : M)
    → length (written laid_out m) ≡ total kinds
length-written {M} {kinds} laid_out m = length-spelled kinds (laid_out.row m) (laid_out.known m)

pub IsMessage-written : {M : Type 0} {kinds : List Kind} (laid_out : LaidOut M kinds) (m : M)
    → IsMessage kinds (written laid_out m)
IsMessage-written {M} {kinds} laid_out m = IsMessage-spelled kinds (laid_out.row m) (laid_out.known m)

pub is_message-written : {M : Type 0} {kinds : List Kind} (laid_out : LaidOut M kinds) (m : M)
    → is_message kinds (written laid_out m) ≡ true
is_message-written {M} {kinds} laid_out m = is_message-passes kinds (written laid_out m) (IsMessage-written laid_out m)

pub same_written : {M : Type 0} {kinds : List Kind} (laid_out : LaidOut M kinds) (m n : M)
    → written laid_out m ≡ written laid_out n → m ≡ n
same_written {M} {kinds} laid_out = same_message kinds laid_out.row laid_out.known laid_out.make laid_out.made

-- at the offset of a field stands the field
pub at_place : {M : Type 0} {kinds : List Kind} (laid_out : LaidOut M kinds) (m : M) (place : ℕ)
    → bytes_at (offset_of kinds place) (width_of kinds place) (written laid_out m) ≡ part kinds (laid_out.row m) place
at_place {M} {kinds} laid_out m place = bytes_at-spelled kinds (laid_out.row m) place (laid_out.known m)
