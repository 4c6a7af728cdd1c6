-- What is handed on of a message: values, each with the name of its column.
use Rattle.std.specs.Prelude.{ℕ, List, [], ◌∷◌, bytes_eq, decimal, if◌then◌else◌}
use Rattle.std.specs.List.{flat_map}
use Rattle.fix_fields.specs.Field.{Field}
use Rattle.day_export.specs.Exported.{is_exported}

pub record Said : Type 0 where
  pub name : List ℕ
  pub value : List ℕ

-- the value of a column, none where there is none
abbrev pub value_of : List ℕ → List Said → List ℕ
value_of name [] = []
value_of name (cell ∷ cells) = if bytes_eq cell.name name then cell.value else value_of name cells

-- a field of a FIX message, where it is handed on
abbrev pub said_of : Field → List Said
said_of f = if is_exported f.tag then record { name = decimal f.tag; value = f.value } ∷ [] else []

-- those of a message, in their order
abbrev pub fields_said : List Field → List Said
fields_said fields = flat_map said_of fields
