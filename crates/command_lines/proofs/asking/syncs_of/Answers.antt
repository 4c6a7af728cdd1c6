use Rattle.std.proofs.Common.{rules}
use Rattle.command_lines.specs.Command.{syncs_of}
use Rattle.command_lines.proofs.asking.syncs_of.Goals as goal

pub returns-in-None : goal.returns-in-None
unfolding syncs_of
returns-in-None c = search rules

pub returns-in-Some : goal.returns-in-Some
unfolding syncs_of
returns-in-Some c = search rules
