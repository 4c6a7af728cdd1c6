use Rattle.std.proofs.Common.{ap, ◌∙◌}
use Rattle.std.proofs.lemmas.Result.{IfOk-weaker}
use Rattle.clap.specs.Words.{app_of, with_rule}
use Rattle.command_lines.proofs.Folds.{first-rule, no-rules}
use Rattle.command_lines.proofs.building.+with_options.Goals as goal

pub returns-in-empty-clause-app : goal.returns-in-empty-clause-app
returns-in-empty-clause-app t c = no-rules (app_of c.args.command) c.args.rows.now c.in-empty.len_below

pub returns-in_ok-with_option-in-len1-up-clause-app : goal.returns-in_ok-with_option-in-len1-up-clause-app
returns-in_ok-with_option-in-len1-up-clause-app t c =
    IfOk-weaker c.with_options.result _ _
    (λ command all.
    first-rule (app_of c.args.command) (app_of c.in_ok-with_option-in-len1-up.field-0) (app_of command)
    c.args.rows.now _ c.in-len1-up.len_at_least
    (c.in_ok-with_option-in-len1-up.ensures.app ∙ ap (with_rule (app_of c.args.command)) c.option.ensures.rule) all)
    c.with_options.ensures.app
