-- A body that is issued, as its report says it: no field of a body has a tag that a session writes round it.
use Rattle.std.proofs.Common.{◌≡◌, ℕ, Bool, true, not, ◌&&◌, cond, List, [], ◌∷◌, ◌++◌, Option, Some, None, map, max}
use Rattle.std.proofs.Common.{refl, sym, ap, ◌∙◌, append-nil, append_assoc, codes}
use Rattle.std.proofs.lemmas.Bool.{and_parts}
use Rattle.std.proofs.lemmas.List.Elements.{filter-append}
use Rattle.gate_law.specs.fix_fields.Field.{Field, Message}
use Rattle.gate_law.specs.fix_stamp.Stamp.{stamp_text}
use Rattle.fix_types.specs.fix_values.Slots.{FieldSlot, appended, fields_of_slots, slot_fields, value_fields}
use Rattle.fix_types.specs.declared.application.AppBody.{AppBody}
use Rattle.fix_types.specs.declared.application.AppBody.TheVariants as bodies
use Rattle.fix_types.specs.Report as report
use Rattle.fix_types.specs.CancelReject as reject
use Rattle.fix_types.specs.Application.{body_fields}
use Rattle.gate_law.specs.session_law.Runs.{Timed, state_after}
use Rattle.gate_law.specs.order_law.Messages.{is_header, body_of}
use Rattle.gate_law.specs.Settings.{Settings, client_name}
use Rattle.gate_law.specs.Sessions.{issue, report_issued}
use Rattle.gate_sessions.specs.Leaving.{issue_call}

-- fields, and then those of slots
appended-from : (fs : List Field) (slots : List FieldSlot) → appended fs slots ≡ fs ++ fields_of_slots slots
appended-from fs [] = sym (append-nil fs)
appended-from fs (s ∷ slots) =
    appended-from (fs ++ slot_fields s) slots
    ∙ append_assoc fs (slot_fields s) (fields_of_slots slots)
    ∙ ap (λ (more : List Field). fs ++ more) (sym (appended-from (slot_fields s) slots))

-- no tag of these slots is a header's
abbrev are_said : List FieldSlot → Bool
are_said [] = true
are_said (s ∷ slots) = not (is_header s.tag) && are_said slots

value-said : (tag : ℕ) (value : Option (List ℕ)) → not (is_header tag) ≡ true
    → body_of (value_fields tag value) ≡ value_fields tag value
value-said tag None said = refl
value-said tag (Some value) said = ap (λ (is_kept : Bool). cond is_kept (record { tag = tag; value = value } ∷ []) [])
    said

slots-said : (fs : List Field) (slots : List FieldSlot) → body_of fs ≡ fs → are_said slots ≡ true
    → body_of (appended fs slots) ≡ appended fs slots
slots-said fs [] before said = before
slots-said fs (s ∷ slots) before said =
    let both = and_parts (not (is_header s.tag)) (are_said slots) said in
    slots-said (fs ++ slot_fields s) slots
    (filter-append (λ (f : Field). not (is_header f.tag)) fs (slot_fields s)
    ∙ ap (λ (said_before : List Field). said_before ++ body_of (slot_fields s)) before
    ∙ ap (λ (said_here : List Field). fs ++ said_here) (value-said s.tag s.value both.0))
    both.1

-- a body with the moment of its issue behind it
body-said : (slots : List FieldSlot) (moment : List ℕ) → are_said slots ≡ true
    → body_of (fields_of_slots slots ++ record { tag = 60; value = moment } ∷ []) ≡ fields_of_slots slots
body-said slots moment said =
    filter-append (λ (f : Field). not (is_header f.tag)) (fields_of_slots slots)
    (record { tag = 60; value = moment } ∷ [])
    ∙ append-nil (body_of (fields_of_slots slots))
    ∙ slots-said [] slots refl said

pub issue-is : (at : ℕ) (body : AppBody) → issue at (body_fields body) ≡ issue_call at body
unfolding issue_call
issue-is at (bodies.Report r) = ap (issue at)
    (appended-from (record { tag = 35; value = 56 ∷ [] } ∷ []) (report.report_body_slots r))
issue-is at (bodies.CancelReject r) = ap (issue at)
    (appended-from (record { tag = 35; value = 57 ∷ [] } ∷ []) (reject.cancel_reject_body_slots r))

-- the report of a body of this type
reported : (kind : List ℕ) (slots : List FieldSlot) (moment : List ℕ) → are_said slots ≡ true
    → record { tag = 35; value = kind } ∷ body_of (fields_of_slots slots ++ record { tag = 60; value = moment } ∷ [])
    ≡ appended (record { tag = 35; value = kind } ∷ []) slots
reported kind slots moment said =
    ap (λ (said_here : List Field). record { tag = 35; value = kind } ∷ said_here) (body-said slots moment said)
    ∙ sym (appended-from (record { tag = 35; value = kind } ∷ []) slots)

-- the session's time as a body is issued at a moment
abbrev time_then : Settings → ℕ → List Timed → ℕ → ℕ
time_then s c calls at = max (state_after s.comp (client_name s c) calls).latest at

pub report-is : (s : Settings) (c : ℕ) (calls : List Timed) (at : ℕ) (body : AppBody)
    → map body_of (report_issued s c calls (issue_call at body)) ≡ body_fields body ∷ []
unfolding issue_call report_issued
report-is s c calls at (bodies.Report r) = ap (λ (m : Message). m ∷ []) (reported (codes "8") (report.report_body_slots r) (stamp_text (time_then s c calls at)) refl)
report-is s c calls at (bodies.CancelReject r) = ap (λ (m : Message). m ∷ []) (reported (codes "9") (reject.cancel_reject_body_slots r) (stamp_text (time_then s c calls at)) refl)
