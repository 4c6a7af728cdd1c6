-- What is shown of a frame to a client. In comments `|` stands for SOH too.
--
-- Source: FIX 4.4 Volume 2, "Standard Message Header", "Standard Message Trailer".
use Rattle.std.specs.Prelude.{ℕ, ◌==◌, Bool, true, false, List, [], ◌∷◌, ◌++◌, drop, map, decimal, if◌then◌else◌}
use Rattle.std.specs.Prelude.{Option, Some, None}
use Rattle.std.specs.List.{flat_map, list_any}
use Rattle.fix_fields.specs.Field.{Field}
use Rattle.fix_fields.specs.Reading.{fields_of}
use Rattle.gate_lines.specs.declared.flags.Flags.{Flags}

-- a bar for SOH
abbrev pub barred : ℕ → ℕ
barred byte = if byte == 1 then 124 else byte

-- framing, names and moments
abbrev pub hidden : List ℕ
hidden = 8 ∷ 9 ∷ 10 ∷ 49 ∷ 52 ∷ 56 ∷ 60 ∷ 122 ∷ []

-- all other fields are shown, the sequence number (34) only where that is asked for
abbrev pub is_shown : Bool → ℕ → Bool
is_shown with_number tag =
    if list_any (λ known. known == tag) hidden then false
    else if tag == 34 then with_number
    else true

-- a field behind a bar, if it is shown: `|35=D`
abbrev pub shown_field : Bool → Field → List ℕ
shown_field with_number f = if is_shown with_number f.tag then 124 ∷ (decimal f.tag ++ 61 ∷ f.value) else []

-- the fields that are shown, each behind a bar
abbrev pub shown_behind_bars : Bool → List Field → List ℕ
shown_behind_bars with_number fields = flat_map (shown_field with_number) fields

-- with a bar between them
abbrev pub shown_fields : Bool → List Field → List ℕ
shown_fields with_number fields = drop 1 (shown_behind_bars with_number fields)

-- of bytes that are no fields nothing
abbrev pub shown_split : Bool → Option (List Field) → List ℕ
shown_split with_number None = []
shown_split with_number (Some fields) = shown_fields with_number fields

-- the bytes of a frame: all of them where that is asked for, a bar for each SOH; else its fields
abbrev pub shown_frame : Flags → List ℕ → List ℕ
shown_frame flags bytes = if flags.raw then map barred bytes else shown_split flags.num (fields_of bytes)
