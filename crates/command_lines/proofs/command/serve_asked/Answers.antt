use Rattle.std.proofs.Common.{rules}
use Rattle.command_lines.specs.Seen.{asked_seen}
use Rattle.command_lines.proofs.command.serve_asked.Goals as goal

pub returns-in-Some : goal.returns-in-Some
unfolding asked_seen
returns-in-Some c = search rules
