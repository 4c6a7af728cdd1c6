use Rattle.std.proofs.lemmas.Result.{IfOk-weaker}
use Rattle.clap.specs.Words.{app_of}
use Rattle.command_lines.proofs.Folds.{first-command, no-commands}
use Rattle.command_lines.proofs.building.+with_commands.Goals as goal

pub returns-in-empty : goal.returns-in-empty
returns-in-empty t c = no-commands (app_of c.args.command) c.args.rows.now c.in-empty.len_below

pub returns-in_ok-with_command-in-len1-up : goal.returns-in_ok-with_command-in-len1-up
returns-in_ok-with_command-in-len1-up t c =
    IfOk-weaker c.with_commands.result _ _
    (λ command all.
    first-command (app_of c.args.command) (app_of c.in_ok-with_command-in-len1-up.field-0) (app_of command)
    c.args.rows.now _ c.in-len1-up.len_at_least c.in_ok-with_command-in-len1-up.ensures all)
    c.with_commands.ensures
