-- Which values a field may have, and which refusal a message meets first.
use Rattle.std.specs.Prelude.{◌≡◌, ℕ, ◌^◌, Bool, true, ◌&&◌, ◌||◌, ◌==◌, nat_le, nat_lt, List, [], ◌∷◌, length}
use Rattle.std.specs.Prelude.{slice_index, Option, Some, None, is_none, if◌then◌else◌, bytes_eq, codes}
use Rattle.std.specs.Option.{option_or}
use Rattle.std.specs.List.{list_all, list_any}
use Rattle.std.specs.Char.{is_ascii_digit}
use Rattle.fix_fields.specs.Fault.{refusal}
use Rattle.fix_fields.specs.Field.{Field, first_value}
use Rattle.wire_bytes.specs.Digits.{number_of}
use Rattle.fix_values.specs.Texts.{is_cl_ord_id, is_float}
use Rattle.fix_values.specs.declared.format.Format.{Format}
use Rattle.fix_values.specs.declared.format.Format.TheVariants as formats
use Rattle.fix_values.specs.declared.format.Row.{Row}
use Rattle.fix_fields.specs.declared.session_refusal.SessionRefusal.{SessionRefusal}
use Rattle.fix_values.specs.declared.refusal.TextFault.{TextFault}
use Rattle.fix_values.specs.declared.refusal.TextFault.TheVariants.{NoMemory, Refused}

-- 1 to 20 digits of a number below 2 ^ 64. (FIX 4.4 Volume 1, data type int.)
abbrev pub is_number : List ℕ → Bool
is_number text = nat_le 1 (length text) && (nat_le (length text) 20
    && (list_all is_ascii_digit text && nat_lt (number_of text) (2 ^ 64)))

-- The letters of ExecType (150) and of OrdStatus (39) that the gateway writes.
abbrev pub exec_types : List ℕ
exec_types = 65 ∷ 48 ∷ 56 ∷ 52 ∷ 68 ∷ 70 ∷ 72 ∷ 54 ∷ 69 ∷ 53 ∷ []

abbrev pub ord_statuses : List ℕ
ord_statuses = 65 ∷ 48 ∷ 49 ∷ 50 ∷ 52 ∷ 54 ∷ 56 ∷ 69 ∷ []

-- those of CxlRejResponseTo (434)
abbrev pub responses : List ℕ
responses = 49 ∷ 50 ∷ []

-- OrderID (37) of an order that isn't known. (FIX 4.4 Volume 4, "Order Cancel Reject".)
abbrev pub is_none_text : List ℕ → Bool
is_none_text text = bytes_eq text (codes "NONE")

abbrev pub is_order_id : List ℕ → Bool
is_order_id text = is_none_text text || is_number text

-- a text of one of these letters
abbrev pub is_letter_of : List ℕ → List ℕ → Bool
is_letter_of letters text = length text == 1 && list_any (λ letter. slice_index text 0 == letter) letters

-- a value has this format
abbrev pub fits : Format → List ℕ → Bool
fits formats.ClOrdId text = is_cl_ord_id text
fits formats.Char text = length text == 1
fits formats.Float text = is_float text
fits formats.Number text = is_number text
fits formats.ExecType text = is_letter_of exec_types text
fits formats.OrdStatus text = is_letter_of ord_statuses text
fits formats.OrderId text = is_order_id text
fits formats.CxlRejResponseTo text = is_letter_of responses text

-- What a value of another format is refused with. (FIX 4.4 Volume 2, SessionRejectReason, 373: 5 value is incorrect,
-- 6 incorrect data format.)
abbrev pub misfit_reason : Format → ℕ
misfit_reason formats.ClOrdId = 5
misfit_reason formats.Char = 6
misfit_reason formats.Float = 6
misfit_reason formats.Number = 6
misfit_reason formats.ExecType = 5
misfit_reason formats.OrdStatus = 5
misfit_reason formats.OrderId = 6
misfit_reason formats.CxlRejResponseTo = 5

-- The first of these tags that no field has, reason 1: required tag missing.
abbrev pub first_missing : List ℕ → List Field → Option SessionRefusal
first_missing [] fs = None
first_missing (tag ∷ tags) fs = if is_none (first_value tag fs) then Some (refusal tag 1) else first_missing tags fs

-- a value has this format, where it is there
abbrev pub passes : Format → Option (List ℕ) → Bool
passes format None = true
passes format (Some text) = fits format text

-- The first of these rows whose tag is there with a value of another format.
abbrev pub first_misfit : List Row → List Field → Option SessionRefusal
first_misfit [] fs = None
first_misfit (row ∷ rows) fs = if passes row.format (first_value row.tag fs) then first_misfit rows fs
    else Some (refusal row.tag (misfit_reason row.format))

-- The first refusal that a message of these required tags and formats meets.
abbrev pub first_refusal : List ℕ → List Row → List Field → Option SessionRefusal
first_refusal tags rows fs = option_or (first_missing tags fs) (first_misfit rows fs)

-- A fault says just what refuses a message, or that memory ran out.
abbrev pub TellsFault : Option SessionRefusal → TextFault → Type 0
TellsFault first NoMemory = Unit {0}
TellsFault first (Refused r) = first ≡ Some r
