-- The fields so far are added.
use Rattle.std.proofs.Common.{◌≡◌, take}
use Rattle.day_export.specs.Said.{fields_said}
use Rattle.day_export.proofs.fields.cells_of.Given as goal

abbrev pub invariant-loop-i : goal.invariant-loop-i
invariant-loop-i l = l.cells.items ≡ fields_said (take l.i l.fields)
