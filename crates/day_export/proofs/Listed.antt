-- The fields of a message, one after another.
use Rattle.std.proofs.Common.{◌≡◌, ℕ, ◌+◌, List, [], ◌∷◌, ◌++◌, take, sym, ap, ◌∙◌}
use Rattle.std.specs.Prelude.{Some, slice_get}
use Rattle.std.proofs.lemmas.Option.{slice_get_within, get_or_from_slice_get}
use Rattle.std.proofs.lemmas.List.{take_more, flat_map_more}
use Rattle.fix_fields.specs.Field.{Field}
use Rattle.day_export.specs.Said.{said_of, fields_said}

pub said-next : (fields : List Field) (i : ℕ) (f : Field) → slice_get fields i ≡ Some f
    → fields_said (take i fields) ++ said_of f ≡ fields_said (take (i + 1) fields)
said-next fields i f e =
    flat_map_more said_of [] (take i fields) f
    ∙ ap fields_said (sym (take_more fields i f (slice_get_within fields i f e)
    ∙ ap (λ (g : Field). take i fields ++ g ∷ []) (get_or_from_slice_get fields i f f e)))
