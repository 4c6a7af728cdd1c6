use Rattle.std.proofs.Common.{rules}
use Rattle.command_lines.specs.Seen.{asked_seen}
use Rattle.command_lines.proofs.command.lone_asked.Goals as goal

pub returns-else-is_so_far : goal.returns-else-is_so_far
unfolding asked_seen
returns-else-is_so_far c = search rules
