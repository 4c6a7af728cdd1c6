use Rattle.std.proofs.Common.{rules}
use Rattle.command_lines.specs.Seen.{asked_seen}
use Rattle.command_lines.proofs.command.end_by.Goals as goal

pub returns-in-Some : goal.returns-in-Some
unfolding asked_seen
returns-in-Some c = search rules

pub returns-in-None : goal.returns-in-None
unfolding asked_seen
returns-in-None c = search rules
