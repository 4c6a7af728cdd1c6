use Rattle.std.proofs.Common.{length}
use Rattle.day_export.proofs.cells.+value_of.Given as goal

abbrev pub decreases-value_of : goal.decreases-value_of
decreases-value_of l = length l.cells.now
