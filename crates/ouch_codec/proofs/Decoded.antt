-- What is read of bytes is what `decode` answers of them.
use Rattle.std.proofs.Common.{◌≡◌, ◌≢◌, ℕ, Bool, true, false, List, [], ◌∷◌, length, refl, sym, ap, subst, ◌∙◌, arith}
use Rattle.std.proofs.Common.{◌<◌, suc, Result, Ok, Err, Option, Some, None, eqb-true}
use Rattle.std.proofs.lemmas.Bool.{false≢true}
use Rattle.std.proofs.lemmas.Bool.Decides.{nat_tests}
use Rattle.std.specs.Prelude.{◌==◌, ◌&&◌, nat_lt, if◌then◌else◌, slice_get}
use Rattle.std.specs.List.{list_all}
use Rattle.ouch_codec.specs.declared.layout.Kind.{Kind}
use Rattle.ouch_codec.specs.declared.outbound.Outbound.{Outbound}
use Rattle.ouch_codec.specs.declared.outbound.Outbound.TheVariants as outbounds
use Rattle.ouch_codec.specs.declared.refusal.DecodeRefusal.{DecodeRefusal}
use Rattle.ouch_codec.specs.declared.refusal.DecodeRefusal.TheVariants as refusals
use Rattle.ouch_codec.specs.Layout.{total, spelled, IsMessage, is_message}
use Rattle.ouch_codec.specs.LaidOut.{LaidOut, written}
use Rattle.ouch_codec.specs.MessageLaws.{both, is_message-passes, IsMessage-passed}
use Rattle.ouch_codec.specs.RowReading.{AreBytes, row_at, AreValues-row_at, spelled-row_at}
use Rattle.ouch_codec.specs.Parts.{type_of}
use Rattle.ouch_codec.specs.CancelRejectLaws.{cancel_reject_laid_out}
use Rattle.ouch_codec.specs.CancelPendingLaws.{cancel_pending_laid_out}
use Rattle.ouch_codec.specs.RejectedLaws.{rejected_laid_out}
use Rattle.ouch_codec.specs.BrokenLaws.{broken_laid_out}
use Rattle.ouch_codec.specs.ExecutedLaws.{executed_laid_out}
use Rattle.ouch_codec.specs.CanceledLaws.{canceled_laid_out}
use Rattle.ouch_codec.specs.ReplacedLaws.{replaced_laid_out}
use Rattle.ouch_codec.specs.AcceptedLaws.{accepted_laid_out}
use Rattle.ouch_codec.specs.SystemEventLaws.{system_event_laid_out}
use Rattle.ouch_codec.specs.Decoding.{Decodes, Refuses, RefusesAs, RefusesByType}
use Rattle.ouch_codec.specs.Values.{is_byte, are_message, below, value_of, by_fields, as_message, decoded}

-- the value of bytes is written as them
written-value_of : {M : Type 0} {kinds : List Kind} (laid_out : LaidOut M kinds) (bytes : List ℕ)
    (e : are_message kinds bytes ≡ true) → bytes ≡ written laid_out (value_of laid_out bytes e)
written-value_of {M} {kinds} laid_out bytes e =
    let parts = both (list_all is_byte bytes) (is_message kinds bytes) e in
    let all = below bytes parts.0 in
    let message = IsMessage-passed kinds bytes parts.1 in
    sym (ap (spelled kinds) (laid_out.remade (row_at kinds 0 bytes) (AreValues-row_at kinds 0 bytes all message))
    ∙ spelled-row_at kinds 0 bytes all message)

same : (m n : ℕ) → (m == n) ≡ true → m ≡ n
same m n e = grind (arith, nat_tests)

other : (m n : ℕ) → (m == n) ≡ false → m ≢ n
other m n e = grind (arith, nat_tests)

-- bytes of a type, as a message of its layout
module _ {M : Type 0} {kinds : List Kind} (laid_out : LaidOut M kinds) (outbound : M → Outbound) (bytes : List ℕ)
    (all : list_all is_byte bytes ≡ true)
    (ok : (m : M) → bytes ≡ written laid_out m → Decodes bytes (Ok (outbound m))) (err : (r : DecodeRefusal) → RefusesAs (total kinds) (IsMessage kinds) bytes r → Refuses bytes r) where
  fields-decodes : length bytes ≡ total kinds → (b : Bool) (e : are_message kinds bytes ≡ b)
      → Decodes bytes (by_fields laid_out outbound bytes b e)
  fields-decodes long true e = ok (value_of laid_out bytes e) (written-value_of laid_out bytes e)
  fields-decodes long false e = err refusals.Field (
    long,
    λ message. let is_one = is_message-passes kinds bytes message in
        false≢true (sym e ∙ rw (all, is_one) refl),
  )

  pub as_message-decodes : Decodes bytes (as_message laid_out outbound bytes)
  as_message-decodes = by_length (length bytes == total kinds) refl
    where
      by_length : (b : Bool) → (length bytes == total kinds) ≡ b → Decodes bytes (as_message laid_out outbound bytes)
      by_length true e = rw e (fields-decodes (same (length bytes) (total kinds) e) (are_message kinds bytes) refl)
      by_length false e = rw e (err refusals.Length (other (length bytes) (total kinds) e))

turned : (m n : ℕ) → (m == n) ≡ false → (n == m) ≡ false
turned m n e = grind (arith, nat_tests)

-- bytes that begin with this one
abbrev Right : List ℕ → ℕ → Type 0
Right bytes b = list_all is_byte (b ∷ bytes) ≡ true → Decodes (b ∷ bytes) (decoded (b ∷ bytes))

of_type : {M : Type 0} {kinds : List Kind} (laid_out : LaidOut M kinds) (outbound : M → Outbound) (k : ℕ)
    (bytes : List ℕ)
    → ((m : M) → k ∷ bytes ≡ written laid_out m → Decodes (k ∷ bytes) (Ok (outbound m)))
    → ((r : DecodeRefusal) → RefusesAs (total kinds) (IsMessage kinds) (k ∷ bytes) r → Refuses (k ∷ bytes) r)
    → decoded (k ∷ bytes) ≡ as_message laid_out outbound (k ∷ bytes) → Right bytes k
of_type laid_out outbound k bytes ok err e all =
    subst (λ (r : Result Outbound DecodeRefusal). Decodes (k ∷ bytes) r) (sym e)
    (as_message-decodes laid_out outbound (k ∷ bytes) all ok err)

pub decoded-Decodes : (bytes : List ℕ) → list_all is_byte bytes ≡ true → Decodes bytes (decoded bytes)
decoded-Decodes [] all = refl
decoded-Decodes (b ∷ bytes) all = by_s (b == 83) refl all
  where
    as_type : (k : ℕ) → (b == k) ≡ true → Right bytes k → Right bytes b
    as_type k e right = subst (λ (x : ℕ). Right bytes x) (sym (same b k e)) right

    by_t : (b == 83) ≡ false → (b == 65) ≡ false → (b == 85) ≡ false → (b == 67) ≡ false → (b == 69) ≡ false
        → (b == 66) ≡ false → (b == 74) ≡ false → (b == 80) ≡ false → (b == 73) ≡ false → (t : Bool) → (b == 84) ≡ t
        → Right bytes b
    by_t s a u c e x j p i true t = as_type 84 t (λ all. refl)
    by_t s a u c e x j p i false t = λ all.
        let s2 = turned b 83 s in let a2 = turned b 65 a in let u2 = turned b 85 u in let c2 = turned b 67 c in let e2 =
        turned b 69 e in let x2 = turned b 66 x in let j2 = turned b 74 j in let p2 = turned b 80 p in let i2 =
        turned b 73 i in
        let type : Refuses (b ∷ bytes) refusals.Type = rw (s2, a2, u2, c2, e2, x2, j2, p2, i2) (other b 84 t, refl) in
        simp (s, a, u, c, e, x, j, p, i, t) type

    by_i : (b == 83) ≡ false → (b == 65) ≡ false → (b == 85) ≡ false → (b == 67) ≡ false → (b == 69) ≡ false
        → (b == 66) ≡ false → (b == 74) ≡ false → (b == 80) ≡ false → (t : Bool) → (b == 73) ≡ t → Right bytes b
    by_i s a u c e x j p true t = as_type 73 t
        (of_type cancel_reject_laid_out outbounds.CancelReject 73 bytes (λ m e. e) (λ r e. e) refl)
    by_i s a u c e x j p false t = by_t s a u c e x j p t (b == 84) refl

    by_p : (b == 83) ≡ false → (b == 65) ≡ false → (b == 85) ≡ false → (b == 67) ≡ false → (b == 69) ≡ false
        → (b == 66) ≡ false → (b == 74) ≡ false → (t : Bool) → (b == 80) ≡ t → Right bytes b
    by_p s a u c e x j true t = as_type 80 t (of_type cancel_pending_laid_out outbounds.CancelPending 80 bytes
        (λ m e. e) (λ r e. e) refl)
    by_p s a u c e x j false t = by_i s a u c e x j t (b == 73) refl

    by_j : (b == 83) ≡ false → (b == 65) ≡ false → (b == 85) ≡ false → (b == 67) ≡ false → (b == 69) ≡ false
        → (b == 66) ≡ false → (t : Bool) → (b == 74) ≡ t → Right bytes b
    by_j s a u c e x true t = as_type 74 t (of_type rejected_laid_out outbounds.Rejected 74 bytes (λ m e. e)
        (λ r e. e) refl)
    by_j s a u c e x false t = by_p s a u c e x t (b == 80) refl

    by_b : (b == 83) ≡ false → (b == 65) ≡ false → (b == 85) ≡ false → (b == 67) ≡ false → (b == 69) ≡ false
        → (t : Bool) → (b == 66) ≡ t → Right bytes b
    by_b s a u c e true t = as_type 66 t (of_type broken_laid_out outbounds.Broken 66 bytes (λ m e. e) (λ r e. e) refl)
    by_b s a u c e false t = by_j s a u c e t (b == 74) refl

    by_e : (b == 83) ≡ false → (b == 65) ≡ false → (b == 85) ≡ false → (b == 67) ≡ false → (t : Bool) → (b == 69) ≡ t
        → Right bytes b
    by_e s a u c true t = as_type 69 t (of_type executed_laid_out outbounds.Executed 69 bytes (λ m e. e)
        (λ r e. e) refl)
    by_e s a u c false t = by_b s a u c t (b == 66) refl

    by_c : (b == 83) ≡ false → (b == 65) ≡ false → (b == 85) ≡ false → (t : Bool) → (b == 67) ≡ t → Right bytes b
    by_c s a u true t = as_type 67 t (of_type canceled_laid_out outbounds.Canceled 67 bytes (λ m e. e) (λ r e. e) refl)
    by_c s a u false t = by_e s a u t (b == 69) refl

    by_u : (b == 83) ≡ false → (b == 65) ≡ false → (t : Bool) → (b == 85) ≡ t → Right bytes b
    by_u s a true t = as_type 85 t (of_type replaced_laid_out outbounds.Replaced 85 bytes (λ m e. e) (λ r e. e) refl)
    by_u s a false t = by_c s a t (b == 67) refl

    by_a : (b == 83) ≡ false → (t : Bool) → (b == 65) ≡ t → Right bytes b
    by_a s true t = as_type 65 t (of_type accepted_laid_out outbounds.Accepted 65 bytes (λ m e. e) (λ r e. e) refl)
    by_a s false t = by_u s t (b == 85) refl

    by_s : (t : Bool) → (b == 83) ≡ t → Right bytes b
    by_s true t = as_type 83 t (of_type system_event_laid_out outbounds.SystemEvent 83 bytes (λ m e. e) (λ r e. e) refl)
    by_s false t = by_a t (b == 65) refl

below-test : (m n : ℕ) → m < n → nat_lt m n ≡ true
below-test m n h = grind (arith, nat_tests)

-- what stands in memory is bytes
pub are_bytes : (bytes : List ℕ) → AreBytes bytes → list_all is_byte bytes ≡ true
are_bytes [] all = refl
are_bytes (b ∷ bytes) all = let first = below-test b 256 (all 0) in let rest = are_bytes bytes (λ i. all (suc i)) in
    rw (first, rest) refl
