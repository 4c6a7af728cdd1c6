-- Of any bytes `Decodes` lets one answer through: what a message is written as is decoded as this message, and bytes
-- that are none have one refusal.
use Rattle.std.proofs.Common.{◌≡◌, ◌≢◌, ℕ, List, Result, Ok, Err, Option, None, Some, refl, sym, ap, subst, ◌∙◌}
use Rattle.std.specs.Prelude.{◌==◌, if◌then◌else◌, MatchOption, codes, slice_get, slice_index}
use Rattle.ouch_codec.specs.declared.layout.Kind.{Kind}
use Rattle.ouch_codec.specs.declared.outbound.system_event.SystemEvent.{SystemEvent}
use Rattle.ouch_codec.specs.declared.outbound.accepted.Accepted.{Accepted}
use Rattle.ouch_codec.specs.declared.outbound.replaced.Replaced.{Replaced}
use Rattle.ouch_codec.specs.declared.outbound.canceled.Canceled.{Canceled}
use Rattle.ouch_codec.specs.declared.outbound.executed.Executed.{Executed}
use Rattle.ouch_codec.specs.declared.outbound.broken.Broken.{Broken}
use Rattle.ouch_codec.specs.declared.outbound.rejected.Rejected.{Rejected}
use Rattle.ouch_codec.specs.declared.outbound.cancel_pending.CancelPending.{CancelPending}
use Rattle.ouch_codec.specs.declared.outbound.cancel_reject.CancelReject.{CancelReject}
use Rattle.ouch_codec.specs.declared.outbound.Outbound.{Outbound}
use Rattle.ouch_codec.specs.declared.outbound.Outbound.TheVariants as outbounds
use Rattle.ouch_codec.specs.declared.refusal.DecodeRefusal.{DecodeRefusal}
use Rattle.ouch_codec.specs.declared.refusal.DecodeRefusal.TheVariants as refusals
use Rattle.ouch_codec.specs.Layout.{total, IsMessage}
use Rattle.ouch_codec.specs.LaidOut.{LaidOut, written, length-written, IsMessage-written, same_written}
use Rattle.ouch_codec.specs.SystemEventLaws.{system_event_laid_out}
use Rattle.ouch_codec.specs.AcceptedLaws.{accepted_laid_out}
use Rattle.ouch_codec.specs.ReplacedLaws.{replaced_laid_out}
use Rattle.ouch_codec.specs.CanceledLaws.{canceled_laid_out}
use Rattle.ouch_codec.specs.ExecutedLaws.{executed_laid_out}
use Rattle.ouch_codec.specs.BrokenLaws.{broken_laid_out}
use Rattle.ouch_codec.specs.RejectedLaws.{rejected_laid_out}
use Rattle.ouch_codec.specs.CancelPendingLaws.{cancel_pending_laid_out}
use Rattle.ouch_codec.specs.CancelRejectLaws.{cancel_reject_laid_out}
use Rattle.ouch_codec.specs.Decoding.{Decodes, Refuses, RefusesAs, RefusesByType, outbound_layout}

-- the types that are taken, by their letters
data Which : Type 0 where
  S : Which
  A : Which
  U : Which
  C : Which
  E : Which
  B : Which
  J : Which
  P : Which
  I : Which
  T : Which

abbrev letter : Which → ℕ
letter S = slice_index (codes "S") 0
letter A = slice_index (codes "A") 0
letter U = slice_index (codes "U") 0
letter C = slice_index (codes "C") 0
letter E = slice_index (codes "E") 0
letter B = slice_index (codes "B") 0
letter J = slice_index (codes "J") 0
letter P = slice_index (codes "P") 0
letter I = slice_index (codes "I") 0
letter T = slice_index (codes "T") 0

abbrev which_of : ℕ → Which
which_of byte =
    if byte == 83 then S
    else if byte == 65 then A
    else if byte == 85 then U
    else if byte == 67 then C
    else if byte == 69 then E
    else if byte == 66 then B
    else if byte == 74 then J
    else if byte == 80 then P
    else if byte == 73 then I
    else T

which_of-letter : (w : Which) → which_of (letter w) ≡ w
which_of-letter S = refl
which_of-letter A = refl
which_of-letter U = refl
which_of-letter C = refl
which_of-letter E = refl
which_of-letter B = refl
which_of-letter J = refl
which_of-letter P = refl
which_of-letter I = refl
which_of-letter T = refl

-- what a message of a type holds
abbrev Held : Which → Type 0
Held S = SystemEvent
Held A = Accepted
Held U = Replaced
Held C = Canceled
Held E = Executed
Held B = Broken
Held J = Rejected
Held P = CancelPending
Held I = CancelReject
Held T = Unit {0}

abbrev outbound : (w : Which) → Held w → Outbound
outbound S m = outbounds.SystemEvent m
outbound A m = outbounds.Accepted m
outbound U m = outbounds.Replaced m
outbound C m = outbounds.Canceled m
outbound E m = outbounds.Executed m
outbound B m = outbounds.Broken m
outbound J m = outbounds.Rejected m
outbound P m = outbounds.CancelPending m
outbound I m = outbounds.CancelReject m
outbound T m = outbounds.Skipped

record Held_by (o : Outbound) : Type 0 where
  which : Which
  held : Held which
  is : outbound which held ≡ o

held_by : (o : Outbound) → Held_by o
held_by (outbounds.SystemEvent m) = record { which = S; held = m; is = refl }
held_by (outbounds.Accepted m) = record { which = A; held = m; is = refl }
held_by (outbounds.Replaced m) = record { which = U; held = m; is = refl }
held_by (outbounds.Canceled m) = record { which = C; held = m; is = refl }
held_by (outbounds.Executed m) = record { which = E; held = m; is = refl }
held_by (outbounds.Broken m) = record { which = B; held = m; is = refl }
held_by (outbounds.Rejected m) = record { which = J; held = m; is = refl }
held_by (outbounds.CancelPending m) = record { which = P; held = m; is = refl }
held_by (outbounds.CancelReject m) = record { which = I; held = m; is = refl }
held_by outbounds.Skipped = record { which = T; held = tt; is = refl }

-- what is decoded as a message begins with its letter
first : (w : Which) (m : Held w) (payload : List ℕ) → Decodes payload (Ok (outbound w m))
    → slice_get payload 0 ≡ Some (letter w)
first S m payload decodes = ap (λ (bs : List ℕ). slice_get bs 0) decodes
first A m payload decodes = ap (λ (bs : List ℕ). slice_get bs 0) decodes
first U m payload decodes = ap (λ (bs : List ℕ). slice_get bs 0) decodes
first C m payload decodes = ap (λ (bs : List ℕ). slice_get bs 0) decodes
first E m payload decodes = ap (λ (bs : List ℕ). slice_get bs 0) decodes
first B m payload decodes = ap (λ (bs : List ℕ). slice_get bs 0) decodes
first J m payload decodes = ap (λ (bs : List ℕ). slice_get bs 0) decodes
first P m payload decodes = ap (λ (bs : List ℕ). slice_get bs 0) decodes
first I m payload decodes = ap (λ (bs : List ℕ). slice_get bs 0) decodes
first T m payload decodes = decodes

-- and as no other message of its type
same : (w : Which) (m n : Held w) (payload : List ℕ) → Decodes payload (Ok (outbound w m))
    → Decodes payload (Ok (outbound w n)) → outbound w m ≡ outbound w n
same S m n payload m-decodes n-decodes = ap outbounds.SystemEvent
    (same_written system_event_laid_out m n (sym m-decodes ∙ n-decodes))
same A m n payload m-decodes n-decodes = ap outbounds.Accepted
    (same_written accepted_laid_out m n (sym m-decodes ∙ n-decodes))
same U m n payload m-decodes n-decodes = ap outbounds.Replaced
    (same_written replaced_laid_out m n (sym m-decodes ∙ n-decodes))
same C m n payload m-decodes n-decodes = ap outbounds.Canceled
    (same_written canceled_laid_out m n (sym m-decodes ∙ n-decodes))
same E m n payload m-decodes n-decodes = ap outbounds.Executed
    (same_written executed_laid_out m n (sym m-decodes ∙ n-decodes))
same B m n payload m-decodes n-decodes = ap outbounds.Broken
    (same_written broken_laid_out m n (sym m-decodes ∙ n-decodes))
same J m n payload m-decodes n-decodes = ap outbounds.Rejected
    (same_written rejected_laid_out m n (sym m-decodes ∙ n-decodes))
same P m n payload m-decodes n-decodes = ap outbounds.CancelPending
    (same_written cancel_pending_laid_out m n (sym m-decodes ∙ n-decodes))
same I m n payload m-decodes n-decodes = ap outbounds.CancelReject
    (same_written cancel_reject_laid_out m n (sym m-decodes ∙ n-decodes))
same T m n payload m-decodes n-decodes = refl

not_refused : {M : Type 0} {kinds : List Kind} (laid_out : LaidOut M kinds) (m : M) (refusal : DecodeRefusal)
    → RefusesAs (total kinds) (IsMessage kinds) (written laid_out m) refusal → ⊥
not_refused laid_out m refusals.Length refuses = refuses (length-written laid_out m)
not_refused laid_out m refusals.Field refuses = refuses.1 (IsMessage-written laid_out m)
not_refused laid_out m refusals.Type refuses = refuses

-- nor is it refused
no_refusal : (w : Which) (m : Held w) (payload : List ℕ) (refusal : DecodeRefusal)
    → Decodes payload (Ok (outbound w m)) → Refuses payload refusal → ⊥
no_refusal S m payload refusal decodes refuses = not_refused system_event_laid_out m refusal
    (subst (λ (bs : List ℕ). Refuses bs refusal) decodes refuses)
no_refusal A m payload refusal decodes refuses = not_refused accepted_laid_out m refusal
    (subst (λ (bs : List ℕ). Refuses bs refusal) decodes refuses)
no_refusal U m payload refusal decodes refuses = not_refused replaced_laid_out m refusal
    (subst (λ (bs : List ℕ). Refuses bs refusal) decodes refuses)
no_refusal C m payload refusal decodes refuses = not_refused canceled_laid_out m refusal
    (subst (λ (bs : List ℕ). Refuses bs refusal) decodes refuses)
no_refusal E m payload refusal decodes refuses = not_refused executed_laid_out m refusal
    (subst (λ (bs : List ℕ). Refuses bs refusal) decodes refuses)
no_refusal B m payload refusal decodes refuses = not_refused broken_laid_out m refusal
    (subst (λ (bs : List ℕ). Refuses bs refusal) decodes refuses)
no_refusal J m payload refusal decodes refuses = not_refused rejected_laid_out m refusal
    (subst (λ (bs : List ℕ). Refuses bs refusal) decodes refuses)
no_refusal P m payload refusal decodes refuses = not_refused cancel_pending_laid_out m refusal
    (subst (λ (bs : List ℕ). Refuses bs refusal) decodes refuses)
no_refusal I m payload refusal decodes refuses = not_refused cancel_reject_laid_out m refusal
    (subst (λ (bs : List ℕ). Refuses bs refusal) decodes refuses)
no_refusal T m payload refusal decodes refuses = (subst
    (λ (x : Option ℕ). MatchOption x (refusal ≡ refusals.Length)
    (λ byte. RefusesByType byte payload refusal)) decodes refuses).0 refl

same_some : (m n : ℕ) → ◌≡◌ {A = Option ℕ} (Some m) (Some n) → m ≡ n
same_some m n e = cc

same_which : (v w : Which) (m : Held v) (n : Held w) (payload : List ℕ) → Decodes payload (Ok (outbound v m))
    → Decodes payload (Ok (outbound w n)) → v ≡ w
same_which v w m n payload m-decodes n-decodes =
    sym (which_of-letter v)
    ∙ ap which_of (same_some (letter v) (letter w) (sym (first v m payload m-decodes) ∙ first w n payload n-decodes))
    ∙ which_of-letter w

one_held : (v w : Which) (m : Held v) (n : Held w) (payload : List ℕ) → Decodes payload (Ok (outbound v m))
    → Decodes payload (Ok (outbound w n)) → outbound v m ≡ outbound w n
one_held v w m n payload m-decodes n-decodes =
    subst
    (λ (u : Which). (k : Held u) → Decodes payload (Ok (outbound u k)) → outbound v m ≡ outbound u k)
    (same_which v w m n payload m-decodes n-decodes)
    (λ k k-decodes. same v m k payload m-decodes k-decodes)
    n
    n-decodes

one_message : (o p : Outbound) (payload : List ℕ) → Decodes payload (Ok o) → Decodes payload (Ok p) → o ≡ p
one_message o p payload o-decodes p-decodes =
    let a = held_by o in
    let b = held_by p in
    sym a.is
    ∙ one_held a.which b.which a.held b.held payload
    (subst (λ (q : Outbound). Decodes payload (Ok q)) (sym a.is) o-decodes)
    (subst (λ (q : Outbound). Decodes payload (Ok q)) (sym b.is) p-decodes)
    ∙ b.is

message_or_refusal : (o : Outbound) (refusal : DecodeRefusal) (payload : List ℕ) → Decodes payload (Ok o)
    → Refuses payload refusal → ⊥
message_or_refusal o refusal payload decodes refuses =
    let a = held_by o in
    no_refusal a.which a.held payload refusal (subst (λ (q : Outbound). Decodes payload (Ok q))
    (sym a.is) decodes) refuses

refusal_of_type : (len : ℕ) (is_spelled : List ℕ → Type 0) (payload : List ℕ) (r s : DecodeRefusal)
    → RefusesAs len is_spelled payload r → RefusesAs len is_spelled payload s → r ≡ s
refusal_of_type len is_spelled payload refusals.Length refusals.Length r-refuses s-refuses = refl
refusal_of_type len is_spelled payload refusals.Length refusals.Field r-refuses s-refuses = absurd
    (r-refuses s-refuses.0)
refusal_of_type len is_spelled payload refusals.Length refusals.Type r-refuses s-refuses = absurd s-refuses
refusal_of_type len is_spelled payload refusals.Field refusals.Length r-refuses s-refuses = absurd
    (s-refuses r-refuses.0)
refusal_of_type len is_spelled payload refusals.Field refusals.Field r-refuses s-refuses = refl
refusal_of_type len is_spelled payload refusals.Field refusals.Type r-refuses s-refuses = absurd s-refuses
refusal_of_type len is_spelled payload refusals.Type s r-refuses s-refuses = absurd r-refuses

one_refusal : (payload : List ℕ) (r s : DecodeRefusal) → Refuses payload r → Refuses payload s → r ≡ s
one_refusal payload r s = by_first (slice_get payload 0)
  where
    by_layout : (byte : ℕ) (x : Option (List Kind))
        → MatchOption x ((byte ≢ 84) × (r ≡ refusals.Type))
        (λ layout. RefusesAs (total layout) (IsMessage layout) payload r)
        → MatchOption x ((byte ≢ 84) × (s ≡ refusals.Type))
        (λ layout. RefusesAs (total layout) (IsMessage layout) payload s) → r ≡ s
    by_layout byte None r-refuses s-refuses = r-refuses.1 ∙ sym s-refuses.1
    by_layout byte (Some layout) r-refuses s-refuses = refusal_of_type (total layout)
        (IsMessage layout) payload r s r-refuses s-refuses

    by_first : (x : Option ℕ) → MatchOption x (r ≡ refusals.Length) (λ byte. RefusesByType byte payload r)
        → MatchOption x (s ≡ refusals.Length) (λ byte. RefusesByType byte payload s) → r ≡ s
    by_first None r-refuses s-refuses = r-refuses ∙ sym s-refuses
    by_first (Some byte) r-refuses s-refuses = by_layout byte (outbound_layout byte) r-refuses s-refuses

-- any two answers that are right of some bytes are one
pub one_answer : (payload : List ℕ) (a b : Result Outbound DecodeRefusal) → Decodes payload a → Decodes payload b
    → a ≡ b
one_answer payload (Ok o) (Ok p) o-decodes p-decodes = ap Ok (one_message o p payload o-decodes p-decodes)
one_answer payload (Ok o) (Err s) o-decodes s-refuses = absurd (message_or_refusal o s payload o-decodes s-refuses)
one_answer payload (Err r) (Ok p) r-refuses p-decodes = absurd (message_or_refusal p r payload p-decodes r-refuses)
one_answer payload (Err r) (Err s) r-refuses s-refuses = ap Err (one_refusal payload r s r-refuses s-refuses)
