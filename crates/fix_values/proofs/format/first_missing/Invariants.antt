use Rattle.std.proofs.Common.{◌≡◌, drop}
use Rattle.fix_values.specs.Formats as spec
use Rattle.fix_values.proofs.format.first_missing.Given as goal

abbrev pub invariant-loop-tag : goal.invariant-loop-tag
invariant-loop-tag l = spec.first_missing (drop l.tag-index l.tags) l.fields ≡ spec.first_missing l.tags l.fields
