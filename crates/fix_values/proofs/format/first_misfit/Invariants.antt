use Rattle.std.proofs.Common.{◌≡◌, drop}
use Rattle.fix_values.specs.Formats as spec
use Rattle.fix_values.proofs.format.first_misfit.Given as goal

abbrev pub invariant-loop-row : goal.invariant-loop-row
invariant-loop-row l = spec.first_misfit (drop l.row-index l.rows) l.fields ≡ spec.first_misfit l.rows l.fields
