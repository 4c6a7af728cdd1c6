-- What the rows of the tables in `src/table.rt` add to a command.
use Rattle.std.specs.Prelude.{List, [], ◌∷◌}
use Rattle.clap.specs.Words.{App, Rule, Text, new_app, with_rule}
use Rattle.command_lines.specs.Command.{flag_rule, required_rule, value_rule, with_command}
use Rattle.command_lines.specs.declared.table.CommandRow.{CommandRow}
use Rattle.command_lines.specs.declared.table.OptionRow.{OptionRow}
use Rattle.command_lines.specs.declared.table.Gives.{Gives}
use Rattle.command_lines.specs.declared.table.Gives.TheVariants.{Value, Required, Flag}

-- an option's rule, by what it is given with and by its name
abbrev pub rule_by : Gives → Text → Rule
rule_by (Value _) name = value_rule name
rule_by (Required _) name = required_rule name
rule_by Flag name = flag_rule name

abbrev pub rule_in : OptionRow → Rule
rule_in row = rule_by row.gives row.name.now

-- a command with options more
unfoldable pub with_rules : App → List OptionRow → App
with_rules app [] = app
with_rules app (row ∷ rows) = with_rules (with_rule app (rule_in row)) rows

-- a subcommand with its options
abbrev pub command_in : CommandRow → App
command_in row = with_rules (new_app row.name.now) row.options.now

-- a command with subcommands more
unfoldable pub with_commands : App → List CommandRow → App
with_commands app [] = app
with_commands app (row ∷ rows) = with_commands (with_command app (command_in row)) rows
