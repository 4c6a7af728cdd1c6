use Rattle.fix_fields.proofs.text.Text.from_vec.Goals as goal

pub invariant_of-result : goal.invariant_of-result
invariant_of-result c = (tt, c.requires)
