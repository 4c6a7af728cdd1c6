use Rattle.std.proofs.Common.{rules}
use Rattle.command_lines.specs.Command.{asking_of}
use Rattle.command_lines.proofs.command.asked_by.Goals as goal

pub returns-in-audit : goal.returns-in-audit
unfolding asking_of
returns-in-audit c = search rules

pub returns-in-journal : goal.returns-in-journal
unfolding asking_of
returns-in-journal c = search rules

pub returns-in-run : goal.returns-in-run
unfolding asking_of
returns-in-run c = search rules

pub returns-in-serve : goal.returns-in-serve
unfolding asking_of
returns-in-serve c = search rules

pub returns-in-end : goal.returns-in-end
unfolding asking_of
returns-in-end c = search rules

pub returns-in-demo : goal.returns-in-demo
unfolding asking_of
returns-in-demo c = search rules

pub returns-in-export : goal.returns-in-export
unfolding asking_of
returns-in-export c = search rules

pub returns-in-world : goal.returns-in-world
unfolding asking_of
returns-in-world c = search rules

pub returns-in_default : goal.returns-in_default
unfolding asking_of
returns-in_default c = search rules
