use Rattle.std.proofs.Common.{Bool, map, sym, ap, ◌∙◌}
use Rattle.std.specs.Prelude.{◌&&◌}
use Rattle.std.specs.List.{list_all}
use Rattle.std.proofs.lemmas.List.{length-map}
use Rattle.gate_law.specs.Limits.{is_between}
use Rattle.toml.specs.View.{view}
use Rattle.settings_file.specs.Rules.{is_table}
use Rattle.settings_file.proofs.Lists.{all-seen}
use Rattle.settings_file.proofs.reading.are_tables.Goals as goal

pub returns-then-is_between : goal.returns-then-is_between
returns-then-is_between c =
    let ts = c.args.tables.now in
    c.is_each_a_table.ensures
    ∙ sym (all-seen view is_table ts)
    ∙ ap (λ (b : Bool). b && list_all is_table (map view ts))
    (c.if-is_between.ensures ∙ ap (is_between 1 c.args.most) (sym (length-map ts view)))
