-- The message that bytes from the market are, as a value: each field read at its offset. (OUCH 4.2, "Outbound
-- Messages".)
use Rattle.std.proofs.Common.{◌≡◌, ℕ, ◌<◌, Bool, true, false, List, [], ◌∷◌, length, get_or, refl, sym, ap, subst, ◌∙◌}
use Rattle.std.proofs.Common.{arith, Result, Ok, Err, zero, suc}
use Rattle.std.specs.Prelude.{◌==◌, ◌&&◌, nat_lt, if◌then◌else◌, codes, slice_index}
use Rattle.std.specs.List.{list_all}
use Rattle.std.proofs.lemmas.List.{get_or_past}
use Rattle.std.proofs.lemmas.Bool.Decides.{nat_tests}
use Rattle.ouch_codec.specs.declared.layout.Kind.{Kind}
use Rattle.ouch_codec.specs.declared.outbound.Outbound.{Outbound}
use Rattle.ouch_codec.specs.declared.outbound.Outbound.TheVariants.{SystemEvent, Accepted, Replaced, Canceled, Executed}
use Rattle.ouch_codec.specs.declared.outbound.Outbound.TheVariants.{Broken, Rejected, CancelPending, CancelReject}
use Rattle.ouch_codec.specs.declared.outbound.Outbound.TheVariants.{Skipped}
use Rattle.ouch_codec.specs.declared.refusal.DecodeRefusal.{DecodeRefusal}
use Rattle.ouch_codec.specs.declared.refusal.DecodeRefusal.TheVariants as refusals
use Rattle.ouch_codec.specs.Layout.{total, is_message}
use Rattle.ouch_codec.specs.MessageLaws.{both, IsMessage-passed}
use Rattle.ouch_codec.specs.LaidOut.{LaidOut}
use Rattle.ouch_codec.specs.RowReading.{AreBytes, row_at, AreValues-row_at}
use Rattle.ouch_codec.specs.SystemEventLaws.{system_event_laid_out}
use Rattle.ouch_codec.specs.AcceptedLaws.{accepted_laid_out}
use Rattle.ouch_codec.specs.ReplacedLaws.{replaced_laid_out}
use Rattle.ouch_codec.specs.CanceledLaws.{canceled_laid_out}
use Rattle.ouch_codec.specs.ExecutedLaws.{executed_laid_out}
use Rattle.ouch_codec.specs.BrokenLaws.{broken_laid_out}
use Rattle.ouch_codec.specs.RejectedLaws.{rejected_laid_out}
use Rattle.ouch_codec.specs.CancelPendingLaws.{cancel_pending_laid_out}
use Rattle.ouch_codec.specs.CancelRejectLaws.{cancel_reject_laid_out}

abbrev pub is_byte : ℕ → Bool
is_byte byte = nat_lt byte 256

-- they are bytes, and a message of this layout
abbrev pub are_message : List Kind → List ℕ → Bool
are_message kinds bytes = list_all is_byte bytes && is_message kinds bytes

nat_lt-said : (m n : ℕ) → nat_lt m n ≡ true → m < n
nat_lt-said m n h = grind (arith, nat_tests)

pub below : (bytes : List ℕ) → list_all is_byte bytes ≡ true → AreBytes bytes
below [] all i = omega (arith, get_or_past {X = ℕ} [] i 0 (omega arith))
below (b ∷ bytes) all zero = nat_lt-said b 256 (both (is_byte b) (list_all is_byte bytes) all).0
below (b ∷ bytes) all (suc i) = below bytes (both (is_byte b) (list_all is_byte bytes) all).1 i

-- the value whose row the bytes say
abbrev pub value_of : {M : Type 0} {kinds : List Kind} → LaidOut M kinds → (bytes : List ℕ)
    → are_message kinds bytes ≡ true → M
value_of {M} {kinds} laid_out bytes e =
    let parts = both (list_all is_byte bytes) (is_message kinds bytes) e in
    laid_out.make (row_at kinds 0 bytes) (AreValues-row_at kinds 0 bytes (below bytes parts.0)
    (IsMessage-passed kinds bytes parts.1))

abbrev pub by_fields : {M : Type 0} {kinds : List Kind} (laid_out : LaidOut M kinds) → (M → Outbound)
    → (bytes : List ℕ) (b : Bool) → are_message kinds bytes ≡ b → Result Outbound DecodeRefusal
by_fields laid_out outbound bytes true e = Ok (outbound (value_of laid_out bytes e))
by_fields laid_out outbound bytes false e = Err refusals.Field

-- as a message of this layout: as many bytes as it has, each field in its set
abbrev pub as_message : {M : Type 0} {kinds : List Kind} → LaidOut M kinds → (M → Outbound) → List ℕ
    → Result Outbound DecodeRefusal
as_message {M} {kinds} laid_out outbound bytes =
    if length bytes == total kinds then by_fields laid_out outbound bytes (are_message kinds bytes) refl
    else Err refusals.Length

-- the message that bytes with this first one are: a line for each type. `T` is skipped, whatever follows.
abbrev pub by_letter : ℕ → List ℕ → Result Outbound DecodeRefusal
by_letter letter bytes =
    if letter == slice_index (codes "S") 0 then as_message system_event_laid_out SystemEvent bytes
    else if letter == slice_index (codes "A") 0 then as_message accepted_laid_out Accepted bytes
    else if letter == slice_index (codes "U") 0 then as_message replaced_laid_out Replaced bytes
    else if letter == slice_index (codes "C") 0 then as_message canceled_laid_out Canceled bytes
    else if letter == slice_index (codes "E") 0 then as_message executed_laid_out Executed bytes
    else if letter == slice_index (codes "B") 0 then as_message broken_laid_out Broken bytes
    else if letter == slice_index (codes "J") 0 then as_message rejected_laid_out Rejected bytes
    else if letter == slice_index (codes "P") 0 then as_message cancel_pending_laid_out CancelPending bytes
    else if letter == slice_index (codes "I") 0 then as_message cancel_reject_laid_out CancelReject bytes
    else if letter == slice_index (codes "T") 0 then Ok Skipped
    else Err refusals.Type

-- the message that bytes are
abbrev pub decoded : List ℕ → Result Outbound DecodeRefusal
decoded [] = Err refusals.Length
decoded (letter ∷ bytes) = by_letter letter (letter ∷ bytes)
