-- Texts that are fields, one after another. (FIX 4.4 Volume 1, "FIX Tag=Value Syntax".)
use Rattle.std.specs.Prelude.{◌≡◌, ℕ, Bool, true, List, [], unwrap_or, is_some}
use Rattle.fix_fields.specs.Field.{Message}
use Rattle.fix_fields.specs.Reading.{fields_of}

-- the fields that a text is; none where it isn't fields
unfoldable pub fields_in : List ℕ → Message
fields_in text = unwrap_or (fields_of text) []

-- the text is fields: something that can be written prints as this text
unfoldable pub prints_fields : List ℕ → Bool
prints_fields text = is_some (fields_of text)

abbrev pub PrintsFields : List ℕ → Type 0
PrintsFields text = prints_fields text ≡ true
