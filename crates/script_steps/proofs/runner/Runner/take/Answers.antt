use Rattle.script_steps.proofs.runner.Runner.take.Goals as goal

pub returns-clause-stepped : goal.returns-clause-stepped
returns-clause-stepped g c = (
  c.in_ok-line.line,
  c.in_ok-line.ensures.said,
  record
      { on = c.in_ok-step.ensures.on; events = c.in_ok-step.ensures.line },
)
