-- Which message, or which refusal, some bytes from the market are. (OUCH 4.2, "Outbound Messages".)
use Rattle.std.specs.Prelude.{◌≡◌, ◌≢◌, ℕ, List, length, Option, Some, None, Result, Ok, Err, MatchOption}
use Rattle.std.specs.Prelude.{if◌then◌else◌, ◌==◌, [], ◌∷◌, slice_index, slice_get, codes}
use Rattle.ouch_codec.specs.declared.layout.Kind.{Kind}
use Rattle.ouch_codec.specs.declared.outbound.Outbound.{Outbound}
use Rattle.ouch_codec.specs.declared.outbound.Outbound.TheVariants.{SystemEvent, Accepted, Replaced, Canceled, Executed}
use Rattle.ouch_codec.specs.declared.outbound.Outbound.TheVariants.{Broken, Rejected, CancelPending, CancelReject}
use Rattle.ouch_codec.specs.declared.outbound.Outbound.TheVariants.{Skipped}
use Rattle.ouch_codec.specs.declared.refusal.DecodeRefusal.{DecodeRefusal}
use Rattle.ouch_codec.specs.declared.refusal.DecodeRefusal.TheVariants as refusals
use Rattle.ouch_codec.specs.Layout.{IsMessage, total, spelled}
use Rattle.ouch_codec.specs.Layouts.{system_event_layout, accepted_layout, replaced_layout, canceled_layout}
use Rattle.ouch_codec.specs.Layouts.{executed_layout, broken_layout, rejected_layout, cancel_pending_layout}
use Rattle.ouch_codec.specs.Layouts.{cancel_reject_layout}
use Rattle.ouch_codec.specs.Rows.{system_event_row, accepted_row, replaced_row, canceled_row, executed_row, broken_row}
use Rattle.ouch_codec.specs.Rows.{rejected_row, cancel_pending_row, cancel_reject_row}

-- the types that are read, each with its layout
abbrev pub outbound_layouts : List (ℕ × List Kind)
outbound_layouts =
    (slice_index (codes "S") 0, system_event_layout)
    ∷ (slice_index (codes "A") 0, accepted_layout)
    ∷ (slice_index (codes "U") 0, replaced_layout)
    ∷ (slice_index (codes "C") 0, canceled_layout)
    ∷ (slice_index (codes "E") 0, executed_layout)
    ∷ (slice_index (codes "B") 0, broken_layout)
    ∷ (slice_index (codes "J") 0, rejected_layout)
    ∷ (slice_index (codes "P") 0, cancel_pending_layout)
    ∷ (slice_index (codes "I") 0, cancel_reject_layout)
    ∷ []

abbrev pub layout_in : List (ℕ × List Kind) → ℕ → Option (List Kind)
layout_in [] letter = None
layout_in (l ∷ ls) letter = if l.0 == letter then Some l.1 else layout_in ls letter

-- the layout of the messages of a type
abbrev pub outbound_layout : ℕ → Option (List Kind)
outbound_layout = layout_in outbound_layouts

-- The refusal of bytes that have a type: they have not its length, or else a field is not in its set.
abbrev pub RefusesAs : ℕ → (List ℕ → Type 0) → List ℕ → DecodeRefusal → Type 0
RefusesAs len is_spelled payload refusals.Length = length payload ≢ len
RefusesAs len is_spelled payload refusals.Field = (length payload ≡ len) × (is_spelled payload → ⊥)
RefusesAs len is_spelled payload refusals.Type = ⊥

-- The refusal of bytes that begin with this letter. 84 is `T`, Priority Update, which is skipped.
abbrev pub RefusesByType : ℕ → List ℕ → DecodeRefusal → Type 0
RefusesByType letter payload refusal =
    MatchOption (outbound_layout letter)
    ((letter ≢ 84) × (refusal ≡ refusals.Type))
    (λ layout. RefusesAs (total layout) (IsMessage layout) payload refusal)

-- the refusal of any bytes: first by the type, then by the length, then by a field
abbrev pub Refuses : List ℕ → DecodeRefusal → Type 0
Refuses payload refusal =
    MatchOption (slice_get payload 0)
    (refusal ≡ refusals.Length)
    (λ letter. RefusesByType letter payload refusal)

-- what `decode` answers: the message that is written as these bytes, or why there is none
abbrev pub Decodes : List ℕ → Result Outbound DecodeRefusal → Type 0
Decodes payload (Ok (SystemEvent m)) = payload ≡ spelled system_event_layout (system_event_row m)
Decodes payload (Ok (Accepted m)) = payload ≡ spelled accepted_layout (accepted_row m)
Decodes payload (Ok (Replaced m)) = payload ≡ spelled replaced_layout (replaced_row m)
Decodes payload (Ok (Canceled m)) = payload ≡ spelled canceled_layout (canceled_row m)
Decodes payload (Ok (Executed m)) = payload ≡ spelled executed_layout (executed_row m)
Decodes payload (Ok (Broken m)) = payload ≡ spelled broken_layout (broken_row m)
Decodes payload (Ok (Rejected m)) = payload ≡ spelled rejected_layout (rejected_row m)
Decodes payload (Ok (CancelPending m)) = payload ≡ spelled cancel_pending_layout (cancel_pending_row m)
Decodes payload (Ok (CancelReject m)) = payload ≡ spelled cancel_reject_layout (cancel_reject_row m)
Decodes payload (Ok Skipped) = slice_get payload 0 ≡ Some 84
Decodes payload (Err refusal) = Refuses payload refusal

-- the number of a refusal
abbrev pub refusal_number : DecodeRefusal → ℕ
refusal_number refusals.Length = 1
refusal_number refusals.Type = 2
refusal_number refusals.Field = 3
