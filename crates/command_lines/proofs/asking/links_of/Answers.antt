use Rattle.std.proofs.Common.{rules}
use Rattle.command_lines.specs.Command.{links_of}
use Rattle.command_lines.proofs.asking.links_of.Goals as goal

pub returns-in-None : goal.returns-in-None
unfolding links_of
returns-in-None c = search rules

pub returns-in-Some : goal.returns-in-Some
unfolding links_of
returns-in-Some c = search rules
