use Rattle.std.proofs.Common.{[], ◌∷◌}
use Rattle.std.specs.Prelude.{codes}
use Rattle.std.specs.List.{flat_map}
use Rattle.day_export.specs.Forms.{behind_comma, columns, columns_text}
use Rattle.day_export.proofs.Joined.{joined3}
use Rattle.day_export.proofs.writing.push_columns.Goals as goal

pub returns : goal.returns
unfolding columns_text
returns c =
    rw (c.in_ok-extend_from_slice-2.ensures.items, c.in_ok-push_names.ensures, c.in_ok-extend_from_slice.ensures.items)
    (joined3 c.args.text.now.items (codes "at,who,way") (flat_map behind_comma columns) (13 ∷ 10 ∷ []))
