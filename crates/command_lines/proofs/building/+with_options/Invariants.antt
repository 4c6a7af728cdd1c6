use Rattle.std.proofs.Common.{length}
use Rattle.command_lines.proofs.building.+with_options.Given as goal

abbrev pub decreases-with_options : goal.decreases-with_options
decreases-with_options l = length l.rows.now
