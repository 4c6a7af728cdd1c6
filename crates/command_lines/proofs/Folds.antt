-- A command with what a table's rows add to it, row after row.
use Rattle.std.proofs.Common.{◌≡◌, ◌≤◌, ◌<◌, ◌-◌, List, [], ◌∷◌, refl, ap, ◌∙◌, arith, length, take, drop, get_or}
use Rattle.std.proofs.lemmas.List.{take_rest}
use Rattle.clap.specs.Words.{App, with_rule}
use Rattle.command_lines.specs.Command.{with_command}
use Rattle.command_lines.specs.Rows.{command_in, rule_in, with_commands, with_rules}
use Rattle.command_lines.specs.declared.table.CommandRow.{CommandRow}
use Rattle.command_lines.specs.declared.table.OptionRow.{OptionRow}

pub no-rules : (app : App) (rows : List OptionRow) → length rows < 1 → app ≡ with_rules app rows
unfolding with_rules
no-rules app [] none = refl
no-rules app (row ∷ rows) none = absurd (omega (arith, none))

pub first-rule : (app wider last : App) (rows : List OptionRow) (row : OptionRow) → 1 ≤ length rows
    → wider ≡ with_rule app (rule_in (get_or rows 0 row))
    → last ≡ with_rules wider (take (length rows - 1) (drop 1 rows)) → last ≡ with_rules app rows
unfolding with_rules
first-rule app wider last [] row some one all = absurd (omega (arith, some))
first-rule app wider last (r ∷ rows) row some one all =
    all ∙ ap (with_rules wider) (take_rest (r ∷ rows) 1)
    ∙ ap (λ (a : App). with_rules a rows) one

pub no-commands : (app : App) (rows : List CommandRow) → length rows < 1 → app ≡ with_commands app rows
unfolding with_commands
no-commands app [] none = refl
no-commands app (row ∷ rows) none = absurd (omega (arith, none))

pub first-command : (app wider last : App) (rows : List CommandRow) (row : CommandRow) → 1 ≤ length rows
    → wider ≡ with_command app (command_in (get_or rows 0 row))
    → last ≡ with_commands wider (take (length rows - 1) (drop 1 rows)) → last ≡ with_commands app rows
unfolding with_commands
first-command app wider last [] row some one all = absurd (omega (arith, some))
first-command app wider last (r ∷ rows) row some one all =
    all ∙ ap (with_commands wider) (take_rest (r ∷ rows) 1)
    ∙ ap (λ (a : App). with_commands a rows) one
