use Rattle.std.proofs.Common.{◌≡◌, ◌++◌, take}
use Rattle.std.specs.List.{flat_map}
use Rattle.day_export.specs.Forms.{other_text}
use Rattle.day_export.proofs.writing.push_others.Given as goal

-- those of the cells so far
abbrev pub invariant-loop-cell : goal.invariant-loop-cell
invariant-loop-cell l = l.text.items ≡ l.initial.text.items ++ flat_map other_text (take l.cell-index l.cells)
