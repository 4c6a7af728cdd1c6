use Rattle.std.proofs.Common.{◌≡◌, List, [], ◌∷◌, map, refl, sym, ap, ◌∙◌}
use Rattle.std.specs.Prelude.{option_map}
use Rattle.toml.specs.Data.{Data}
use Rattle.toml.specs.View.{array_view, items_of, view}
use Rattle.settings_file.specs.Rules.{items_in, items_or_none}
use Rattle.settings_file.proofs.reading.tables_at.Goals as goal

items-in : (ds : List Data) → items_in (items_of ds) ≡ ds
items-in [] = refl
items-in (d ∷ ds) = ap (λ (es : List Data). d ∷ es) (items-in ds)

pub returns-in-Some : goal.returns-in-Some
returns-in-Some c =
    ap (map view) c.as_slice.ensures.value
    ∙ sym (items-in (map view c.in-Some.tables.now.items))
    ∙ ap items_or_none (ap (option_map (λ v. array_view v.now)) (sym c.in-Some.is) ∙ c.array_in.ensures)
