use Rattle.std.proofs.Common.{List, ℕ, ap, ◌∙◌}
use Rattle.std.specs.List.{list_all}
use Rattle.fix_fields.specs.Field.{is_inside}
use Rattle.fix_fields.proofs.text.Text.copied.Goals as goal

pub invariant_of-result-2 : goal.invariant_of-result-2
invariant_of-result-2 c = (tt, ap (λ (l : List ℕ). list_all is_inside l) c.in_ok-from_slice.ensures.items ∙ c.requires)
