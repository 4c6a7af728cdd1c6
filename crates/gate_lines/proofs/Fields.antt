-- One field more is shown.
use Rattle.std.proofs.Common.{◌≡◌, ℕ, ◌+◌, Bool, List, [], ◌∷◌, ◌++◌, take, sym, ap, ◌∙◌}
use Rattle.std.specs.Prelude.{Some, slice_get}
use Rattle.std.proofs.lemmas.Option.{slice_get_within, get_or_from_slice_get}
use Rattle.std.proofs.lemmas.List.{take_more, flat_map_more}
use Rattle.fix_fields.specs.Field.{Field}
use Rattle.gate_lines.specs.Frames.{shown_field, shown_behind_bars}

pub shown-next : (with_number : Bool) (fields : List Field) (i : ℕ) (f : Field) → slice_get fields i ≡ Some f
    → shown_behind_bars with_number (take i fields) ++ shown_field with_number f
    ≡ shown_behind_bars with_number (take (i + 1) fields)
shown-next with_number fields i f e =
    flat_map_more (shown_field with_number) [] (take i fields) f
    ∙ ap (shown_behind_bars with_number) (sym
    (take_more fields i f (slice_get_within fields i f e)
    ∙ ap (λ (g : Field). take i fields ++ g ∷ []) (get_or_from_slice_get fields i f f e)))
