-- What a message asks, by its bytes alone.
use Rattle.std.proofs.Common.{◌≡◌, ℕ, Bool, true, false, List, refl, ap, ◌∙◌, codes, eqb-true}
use Rattle.std.specs.Prelude.{◌==◌, if◌then◌else◌, slice_index}
use Rattle.order_law.specs.ouch_codec.declared.inbound.Inbound.{Inbound}
use Rattle.order_law.specs.ouch_codec.declared.inbound.Inbound.TheVariants.{Enter, Replace, Cancel}
use Rattle.order_law.specs.ouch_codec.Inbound.{inbound_bytes}
use Rattle.order_law.specs.ouch_codec.Layout.{spelled}
use Rattle.order_law.specs.ouch_codec.Layouts as layouts
use Rattle.order_law.specs.ouch_codec.Parts.{type_of}
use Rattle.order_law.specs.ouch_codec.Rows.{enter_order_row, replace_row, cancel_row}
use Rattle.order_law.specs.ouch_codec.CancelParts.{SaysCancel-written}
use Rattle.order_law.specs.ouch_codec.EnterOrderParts.{SaysEnterOrder-written}
use Rattle.order_law.specs.ouch_codec.ReplaceParts.{SaysReplace-written}
use Rattle.order_law.specs.ouch_codec.ToMarket as said
use Rattle.order_law.specs.History.{Said, SaysNew, SaysReplace, SaysCancel}
use Rattle.order_law.specs.Headline.{HasTokens, has_type}
use Rattle.outstanding.specs.Kept.{asked_by_fields, asked_by_bytes}

-- ---- types and tokens say what is asked

-- a message has one type
other-type : (m : List ℕ) → has_type (codes "U") m ≡ true → has_type (codes "O") m ≡ false
other-type m e = ap (λ (n : ℕ). n == slice_index (codes "O") 0) (eqb-true (type_of m) (slice_index (codes "U") 0) e)

no-new : (m : List ℕ) → has_type (codes "X") m ≡ true → has_type (codes "O") m ≡ false
no-new m e = ap (λ (n : ℕ). n == slice_index (codes "O") 0) (eqb-true (type_of m) (slice_index (codes "X") 0) e)

no-replace : (m : List ℕ) → has_type (codes "X") m ≡ true → has_type (codes "U") m ≡ false
no-replace m e = ap (λ (n : ℕ). n == slice_index (codes "U") 0) (eqb-true (type_of m) (slice_index (codes "X") 0) e)

-- what a message of this type and these tokens asks
abbrev choose : (new replace : Bool) → List ℕ → Said
choose new replace m =
    if new then SaysNew (said.token m)
    else (if replace then SaysReplace (said.token m) (said.replacement_token m) else SaysCancel (said.token m))

said_in-chosen : (m : List ℕ) → asked_by_bytes m ≡ choose (has_type (codes "O") m) (has_type (codes "U") m) m
unfolding asked_by_bytes
said_in-chosen m = refl

-- the bytes that have the type and tokens of what is asked say it
pub said_in-is : (s : Said) (m : List ℕ) → HasTokens s m → asked_by_bytes m ≡ s
said_in-is (SaysNew token) m h =
    said_in-chosen m ∙ ap (λ (o : Bool). choose o (has_type (codes "U") m) m) h.0 ∙ ap SaysNew h.1
said_in-is (SaysReplace from to) m h =
    said_in-chosen m
    ∙ ap (λ (o : Bool). choose o (has_type (codes "U") m) m) (other-type m h.0)
    ∙ ap (λ (u : Bool). choose false u m) h.0
    ∙ ap (λ (t : List ℕ). SaysReplace t (said.replacement_token m)) h.1
    ∙ ap (λ (t : List ℕ). SaysReplace from t) h.2
said_in-is (SaysCancel token) m h =
    said_in-chosen m
    ∙ ap (λ (o : Bool). choose o (has_type (codes "U") m) m) (no-new m h.0)
    ∙ ap (λ (u : Bool). choose false u m) (no-replace m h.0)
    ∙ ap SaysCancel h.1

-- a message says by its bytes what it asks by its fields
pub said_in-written : (message : Inbound) → asked_by_bytes (inbound_bytes message) ≡ asked_by_fields message
said_in-written (Enter message) =
    let says = SaysEnterOrder-written message in
    said_in-is (SaysNew message.token) (spelled layouts.enter_order_layout (enter_order_row message))
    (ap (λ (b : ℕ). b == 79) says.type, says.token)
said_in-written (Replace message) =
    let says = SaysReplace-written message in
    said_in-is (SaysReplace message.token message.replacement_token)
    (spelled layouts.replace_layout (replace_row message))
    (ap (λ (b : ℕ). b == 85) says.type, says.token, says.replacement_token)
said_in-written (Cancel message) =
    let says = SaysCancel-written message in
    said_in-is (SaysCancel message.token) (spelled layouts.cancel_layout (cancel_row message))
    (ap (λ (b : ℕ). b == 88) says.type, says.token)
