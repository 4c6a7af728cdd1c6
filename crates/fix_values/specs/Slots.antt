-- Fields of which some may be missing, in the order in which they are written.
use Rattle.std.specs.Prelude.{ℕ, List, [], ◌∷◌, ◌++◌, Option, Some, None, fold, decimal, slice_index, unwrap_or, codes}
use Rattle.std.specs.Prelude.{if◌then◌else◌}
use Rattle.std.specs.Option.{option_map}
use Rattle.fix_fields.specs.Field.{Field, first_value}
use Rattle.wire_bytes.specs.Digits.{number_of}
use Rattle.fix_values.specs.Formats.{is_none_text}

-- a tag, and its value where it has one
pub record FieldSlot : Type 0 where
  pub tag : ℕ
  pub value : Option (List ℕ)

abbrev pub slot : ℕ → Option (List ℕ) → FieldSlot
slot tag value = record { tag = tag; value = value }

-- a field that is always there
abbrev pub field_slot : ℕ → List ℕ → FieldSlot
field_slot tag value = slot tag (Some value)

-- the field of a slot, where it has one
abbrev pub value_fields : ℕ → Option (List ℕ) → List Field
value_fields tag None = []
value_fields tag (Some value) = record { tag = tag; value = value } ∷ []

abbrev pub slot_fields : FieldSlot → List Field
slot_fields s = value_fields s.tag s.value

-- fields, and those of all slots behind them, one after another
abbrev pub appended : List Field → List FieldSlot → List Field
appended fs slots = fold (λ before s. before ++ slot_fields s) fs slots

-- the fields of all slots, one after another
abbrev pub fields_of_slots : List FieldSlot → List Field
fields_of_slots slots = appended [] slots

-- a text of one byte, and a text of digits, where there is one
abbrev pub char_text : Option ℕ → Option (List ℕ)
char_text byte = option_map (λ b. b ∷ []) byte

abbrev pub number_text : Option ℕ → Option (List ℕ)
number_text number = option_map (λ n. decimal n) number

-- OrderID (37): a number, or NONE for an order that isn't known. (FIX 4.4 Volume 4, "Order Cancel Reject".)
abbrev pub order_id_text : Option ℕ → List ℕ
order_id_text None = codes "NONE"
order_id_text (Some number) = decimal number

abbrev pub order_id_of : List ℕ → Option ℕ
order_id_of text = if is_none_text text then None else Some (number_of text)

-- what a reader makes of the first field with a tag: its text, its first byte, its number
abbrev pub text_of : ℕ → List Field → List ℕ
text_of tag fs = unwrap_or (first_value tag fs) []

abbrev pub char_of : ℕ → List Field → ℕ
char_of tag fs = slice_index (text_of tag fs) 0

abbrev pub number_of_tag : ℕ → List Field → ℕ
number_of_tag tag fs = number_of (text_of tag fs)

abbrev pub order_id_at : ℕ → List Field → Option ℕ
order_id_at tag fs = order_id_of (text_of tag fs)

abbrev pub optional_char : ℕ → List Field → Option ℕ
optional_char tag fs = option_map (λ text. slice_index text 0) (first_value tag fs)

abbrev pub optional_number : ℕ → List Field → Option ℕ
optional_number tag fs = option_map (λ text. number_of text) (first_value tag fs)
