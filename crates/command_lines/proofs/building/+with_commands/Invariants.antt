use Rattle.std.proofs.Common.{length}
use Rattle.command_lines.proofs.building.+with_commands.Given as goal

abbrev pub decreases-with_commands : goal.decreases-with_commands
decreases-with_commands l = length l.rows.now
