use Rattle.script_steps.proofs.Stepping.{after-opening}
use Rattle.script_steps.proofs.Going.{onward, holds-after}
use Rattle.gate_lines.proofs.Stepping.{comes-to}
use Rattle.gate_lines.proofs.script.script_history.Goals as goal

pub returns-clause-holds : goal.returns-clause-holds
returns-clause-holds g c =
    holds-after _ _ _ (onward _ _ _ _ _ c.in_ok-step_lines.ensures.on
    (after-opening _ (c.in_ok-runner.ensures c.new-kept.ensures)))

pub returns-clause-lines : goal.returns-clause-lines
returns-clause-lines g c = comes-to _ _ _ _ (c.in_ok-runner.ensures c.new-kept.ensures) c.in_ok-step_lines.ensures.lines
